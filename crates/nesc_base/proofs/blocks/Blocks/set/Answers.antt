use Rattle.std.proofs.Common.{◌≡◌, ◌+◌, ◌<◌, ◌∙◌, [], ◌∷◌, Some, ap, arith, length, length-append, slice_get, subst, sym, true, get_or}
use Rattle.std.specs.Prelude.{slice_set}
use Rattle.std.proofs.lemmas.Option.{slice_get-get_or}
use Rattle.nesc_base.specs.declared.blocks.Form.{Form}
use Rattle.nesc_base.specs.declared.blocks.Form.TheVariants.{Full}
use Rattle.nesc_base.specs.Blocks.{AreKept, blocks_in, repeats}
use Rattle.nesc_base.proofs.BlocksLemmas.{AreKept-full, AreKept-repeats, form_within, period-repeated, repeats_there, set-full, set-in_full, set-repeats}
use Rattle.nesc_base.proofs.blocks.Blocks.set.Goals as goal

pub returns-in-Full : goal.returns-in-Full
returns-in-Full c =
    let forms = c.self.inside.forms.items in
    let full = c.self.inside.full.items in
    let within : c.args.k < length forms = form_within forms full c.args.self.now c.args.k c.self.view_is c.requires in
    let stands : slice_get forms c.args.k ≡ Some (Full c.from.result) =
    slice_get-get_or forms c.args.k c.index.result.now within ∙ ap (λ (form : Form). Some form) (sym c.index.ensures ∙ c.in-Full.is) ∙ ap (λ i. Some (Full i)) (sym c.from.ensures) in
    rw (← c.self.view_is) (set-in_full forms full _ _ c.args.k c.from.result c.args.block.now stands c.self.invariant)

pub invariant_of-self-in-Some : goal.invariant_of-self-in-Some
invariant_of-self-in-Some c =
    let forms = c.self.inside.forms.items in
    let within : c.args.k < length forms = form_within forms c.self.inside.full.items c.args.self.now c.args.k c.self.view_is c.requires in
    let was : repeats (get_or forms c.args.k c.index.result.now) ≡ true = ap repeats (sym c.index.ensures) ∙ repeats_there c.index.result.now c.in_default.not-Full in
    AreKept-repeats forms c.self.inside.full.items _ _ c.args.k c.in-Some.bytes c.index.result.now within was c.self.invariant

pub returns-in-Some : goal.returns-in-Some
returns-in-Some c =
    rw (← c.self.view_is) (set-repeats c.self.inside.forms.items c.self.inside.full.items c.args.k c.in-Some.bytes c.args.block.now (period-repeated c.args.block.now c.in-Some.bytes (sym c.period.ensures ∙ c.in-Some.is)))

pub invariant_of-self-2 : goal.invariant_of-self-2
invariant_of-self-2 c =
    let forms = c.self.inside.forms.items in
    let within : c.args.k < length forms = form_within forms c.self.inside.full.items c.args.self.now c.args.k c.self.view_is c.requires in
    let was : repeats (get_or forms c.args.k c.index.result.now) ≡ true = ap repeats (sym c.index.ensures) ∙ repeats_there c.index.result.now c.in_default.not-Full in
    let number : c.len.result ≡ length c.self.inside.full.items = omega arith in
    let longer : length c.push_reserved.new.self.items ≡ c.len.result + 1 = omega (arith, ap length c.push_reserved.ensures.items, length-append c.self.inside.full.items (c.args.block.now ∷ [])) in
    subst (AreKept (slice_set forms c.args.k (Full c.len.result)) c.push_reserved.new.self.items _) (sym c.push_reserved.ensures.capacity)
    (AreKept-full forms c.self.inside.full.items c.push_reserved.new.self.items _ _ c.args.k c.len.result c.index.result.now within was number longer c.self.invariant)

pub returns : goal.returns
returns c =
    let forms = c.self.inside.forms.items in
    let number : c.len.result ≡ length c.self.inside.full.items = omega arith in
    rw (← c.self.view_is) (
    ap (blocks_in (slice_set forms c.args.k (Full c.len.result))) c.push_reserved.ensures.items
    ∙ set-full forms c.self.inside.full.items _ _ c.args.k c.len.result c.args.block.now number c.self.invariant)
