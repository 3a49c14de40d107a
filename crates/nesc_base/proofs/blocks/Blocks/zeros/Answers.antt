use Rattle.std.proofs.Common.{arith}
use Rattle.nesc_base.proofs.BlocksLemmas.{AreKept-zeros, blocks_in-zeros}
use Rattle.nesc_base.proofs.blocks.Blocks.zeros.Goals as goal

pub invariant_of-result : goal.invariant_of-result
invariant_of-result c =
    AreKept-zeros _ _ c.args.n _ _ c.make_zeros.ensures.items c.in_ok-full.ensures.items c.requires.some c.requires.within
    (omega (arith, c.make_zeros.ensures.capacity, c.in_ok-forms.ensures.capacity))
    c.in_ok-full.ensures.capacity

pub returns : goal.returns
returns c = blocks_in-zeros _ _ c.args.n c.make_zeros.ensures.items
