use Rattle.std.proofs.Common.{◌≡◌, ◌<◌, ◌∙◌, Some, ap, get_or, length, refl, slice_get, sym, true}
use Rattle.std.proofs.lemmas.Option.{slice_get-get_or}
use Rattle.nesc_base.specs.declared.blocks.Form.{Form}
use Rattle.nesc_base.specs.declared.blocks.Form.TheVariants.{Full}
use Rattle.nesc_base.specs.BlockText.{repeated}
use Rattle.nesc_base.specs.Blocks.{repeats}
use Rattle.nesc_base.proofs.BlocksLemmas.{AreKept-repeats, form_within, repeats_there, set-in_full, set-repeats}
use Rattle.nesc_base.proofs.blocks.Blocks.set_repeated.Goals as goal

pub returns-in-Full : goal.returns-in-Full
returns-in-Full c =
    let forms = c.self.inside.forms.items in
    let full = c.self.inside.full.items in
    let within : c.args.k < length forms = form_within forms full c.args.self.now c.args.k c.self.view_is c.requires in
    let stands : slice_get forms c.args.k ≡ Some (Full c.from.result) =
    slice_get-get_or forms c.args.k c.index.result.now within ∙ ap (λ (form : Form). Some form) (sym c.index.ensures ∙ c.in-Full.is) ∙ ap (λ i. Some (Full i)) (sym c.from.ensures) in
    rw (← c.self.view_is, ← c.repeated.ensures) (set-in_full forms full _ _ c.args.k c.from.result c.repeated.result stands c.self.invariant)

pub invariant_of-self-2 : goal.invariant_of-self-2
invariant_of-self-2 c =
    let forms = c.self.inside.forms.items in
    let within : c.args.k < length forms = form_within forms c.self.inside.full.items c.args.self.now c.args.k c.self.view_is c.requires in
    let was : repeats (get_or forms c.args.k c.index.result.now) ≡ true = ap repeats (sym c.index.ensures) ∙ repeats_there c.index.result.now c.in_default.not-Full in
    AreKept-repeats forms c.self.inside.full.items _ _ c.args.k c.args.bytes.now c.index.result.now within was c.self.invariant

pub returns : goal.returns
returns c =
    rw (← c.self.view_is) (set-repeats c.self.inside.forms.items c.self.inside.full.items c.args.k c.args.bytes.now (repeated c.args.bytes.now) refl)
