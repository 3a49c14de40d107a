use Rattle.std.proofs.Common.{arith}
use Rattle.nesc_base.proofs.BlocksLemmas.{AreKept-zeros, blocks_in-zeros}
use Rattle.nesc_base.proofs.blocks.Blocks.refill.Goals as goal

pub invariant_of-self : goal.invariant_of-self
invariant_of-self c =
    AreKept-zeros _ _ c.args.n _ _ c.make_zeros.ensures.items c.clear.ensures.items c.requires.some c.requires.within
    (omega (arith, c.make_zeros.ensures.capacity, c.self.invariant.room_for_forms))
    (omega (arith, c.clear.ensures.capacity, c.self.invariant.room_for_full))

pub returns : goal.returns
returns c = blocks_in-zeros _ _ c.args.n c.make_zeros.ensures.items
