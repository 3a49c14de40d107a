-- The word that is written has one bit off, and the bits of the others are as before.
use Rattle.std.proofs.Common.{◌<◌, ◌*◌, ◌∙◌, Bool, false, List, length, slice_set, ap, arith}
use Rattle.std.proofs.lemmas.Bool.{false≢true}
use Rattle.block_map.proofs.free_bits.FreeBits.clear.Goals as goal
use Rattle.block_map.proofs.BitLemmas.{length_view, view_of_edit, bits_after_edit, edit_by_clear}

pub index_mut-requires : goal.index_mut-requires
index_mut-requires c =
    let b = c.self.inside in
    omega (arith, ap length c.self.view_is, length_view b.words.items b.len, b.words.ok.0, c.self.invariant.enough)

pub invariant_of-self : goal.invariant_of-self
invariant_of-self c =
    let b = c.self.inside in
    let inside : c.args.k < b.len = omega (arith, ap length c.self.view_is, length_view b.words.items b.len) in
    let there : c.args.k < 64 * length b.words.items = omega (arith, c.self.invariant.enough) in
    bits_after_edit b.words.items _ b.len b.hint c.args.k false b.hint c.self.invariant inside
    (edit_by_clear b.words.items c.args.k _ there c.index_mut.ensures.value)
    (omega arith)
    (λ e. absurd (false≢true e))

pub returns : goal.returns
returns c =
    let b = c.self.inside in
    let inside : c.args.k < b.len = omega (arith, ap length c.self.view_is, length_view b.words.items b.len) in
    let there : c.args.k < 64 * length b.words.items = omega (arith, c.self.invariant.enough) in
    view_of_edit b.words.items _ b.len c.args.k false inside
    (edit_by_clear b.words.items c.args.k _ there c.index_mut.ensures.value)
    ∙ ap (λ (bits : List Bool). slice_set bits c.args.k false) c.self.view_is
