use Rattle.std.proofs.Common.{◌≡◌, ◌*◌, length, take}
use Rattle.nesc_base.specs.BlockText.{times}
use Rattle.nesc_base.proofs.block.Block.repeated.Given as goal

abbrev pub invariant-loop-k : goal.invariant-loop-k
invariant-loop-k l = (length l.all ≡ 1024) × (take (l.k * 8) l.all ≡ times l.k l.bytes)
