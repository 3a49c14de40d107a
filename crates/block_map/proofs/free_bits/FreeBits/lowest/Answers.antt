use Rattle.std.proofs.Common.{◌+◌, ◌*◌, ◌<◌, ◌^◌, Bool, List, length, arith, rules, subst, w64}
use Rattle.std.specs.Int.{trailing_zeros}
use Rattle.block_map.specs.Bits.{AreClear, IsLowestSet}
use Rattle.block_map.proofs.BitLemmas.{lowest_of_word, view_clear}
use Rattle.block_map.proofs.free_bits.FreeBits.lowest.Goals as goal

pub returns-then-word-ne0 : goal.returns-then-word-ne0
returns-then-word-ne0 c =
    let b = c.self.inside in
    let within : c.loop-w.w < length b.words.items = omega (arith, c.len-w-end.ensures, b.words.ok.0) in
    let short : c.index-word.result.now < 2 ^ 64 = search rules in
    subst (λ (bits : List Bool). IsLowestSet bits (c.loop-w.w * 64 + trailing_zeros w64 c.index-word.result.now)) c.self.view_is
    (lowest_of_word b.words.items b.len b.hint c.loop-w.w _ c.self.invariant within c.index-word.ensures (omega arith) short c.loop-w.invariant)

pub returns : goal.returns
returns c =
    let b = c.self.inside in
    subst (λ (bits : List Bool). AreClear bits) c.self.view_is
    (view_clear b.words.items b.len (λ k h. c.loop-w.invariant k (omega (arith, c.len-w-end.ensures, b.words.ok.0, c.self.invariant.enough))))
