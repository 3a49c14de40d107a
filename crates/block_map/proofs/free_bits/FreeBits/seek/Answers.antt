use Rattle.std.proofs.Common.{Bool, List, sym, subst}
use Rattle.block_map.specs.Bits.{IsLowestSet}
use Rattle.block_map.proofs.BitLemmas.{bits_at_lowest}
use Rattle.block_map.proofs.free_bits.FreeBits.seek.Goals as goal

pub invariant_of-self : goal.invariant_of-self
invariant_of-self c =
    let b = c.self.inside in
    bits_at_lowest b.words.items b.len b.hint c.in_ok-k.k c.self.invariant
    (subst (λ (bits : List Bool). IsLowestSet bits c.in_ok-k.k) (sym c.self.view_is) c.in_ok-k.ensures)
