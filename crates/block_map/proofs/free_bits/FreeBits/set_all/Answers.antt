-- After the loop the whole words are set, and the word behind them has the rest, if there is a rest.
use Rattle.std.proofs.Common.{ℕ, ◌/◌, ◌<◌, length, replicate, slice_set, true, arith, ap, sym, ◌∙◌, length-set}
use Rattle.block_map.specs.Bits.{bits_of}
use Rattle.block_map.proofs.BitLemmas.{length_view, bits_first_set, first_set_rest, first_set_whole, view_first_set}
use Rattle.block_map.proofs.free_bits.FreeBits.set_all.Goals as goal

pub invariant_of-self : goal.invariant_of-self
invariant_of-self c =
    let b = c.self.inside in
    let after = c.loop-w.self-inside.words.items in
    let within : b.len / 64 < length after = omega (arith, c.self.invariant.enough, c.loop-w.invariant.words.long) in
    bits_first_set b.words.items _ b.len b.hint _ _ c.self.invariant
    (length-set after (b.len / 64) _ ∙ c.loop-w.invariant.words.long) c.loop-w.invariant.len c.loop-w.invariant.hint
    (first_set_rest b.words.items after b.len b.hint c.loop-w.w c.self.invariant c.loop-w.invariant.words (omega arith) within)

pub invariant_of-self-else-rest-ne0 : goal.invariant_of-self-else-rest-ne0
invariant_of-self-else-rest-ne0 c =
    let b = c.self.inside in
    bits_first_set b.words.items _ b.len b.hint _ _ c.self.invariant
    c.loop-w.invariant.words.long c.loop-w.invariant.len c.loop-w.invariant.hint
    (first_set_whole b.words.items _ b.len b.hint c.loop-w.w c.self.invariant c.loop-w.invariant.words (omega arith) c.if-rest-ne0.false)

pub returns-then-rest-ne0 : goal.returns-then-rest-ne0
returns-then-rest-ne0 c =
    let b = c.self.inside in
    let after = c.loop-w.self-inside.words.items in
    let within : b.len / 64 < length after = omega (arith, c.self.invariant.enough, c.loop-w.invariant.words.long) in
    ap (bits_of (slice_set after (b.len / 64) _)) c.loop-w.invariant.len
    ∙ view_first_set _ b.len (first_set_rest b.words.items after b.len b.hint c.loop-w.w c.self.invariant c.loop-w.invariant.words (omega arith) within)
    ∙ ap (λ (n : ℕ). replicate n true) (sym (length_view b.words.items b.len) ∙ ap length c.self.view_is)

pub returns-else-rest-ne0 : goal.returns-else-rest-ne0
returns-else-rest-ne0 c =
    let b = c.self.inside in
    ap (bits_of c.loop-w.self-inside.words.items) c.loop-w.invariant.len
    ∙ view_first_set _ b.len (first_set_whole b.words.items _ b.len b.hint c.loop-w.w c.self.invariant c.loop-w.invariant.words (omega arith) c.if-rest-ne0.false)
    ∙ ap (λ (n : ℕ). replicate n true) (sym (length_view b.words.items b.len) ∙ ap length c.self.view_is)
