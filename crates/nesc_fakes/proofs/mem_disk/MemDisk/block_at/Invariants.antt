use Rattle.std.proofs.Common.{◌≡◌, List, drop, slice_get}
use Rattle.nesc_base.specs.declared.block.Block.{Block}
use Rattle.nesc_fakes.specs.MemDisk.{taken_back}
use Rattle.nesc_fakes.proofs.mem_disk.MemDisk.block_at.Given as goal

-- none of the calls so far changes what is found at the place
abbrev pub invariant-loop-call : goal.invariant-loop-call
invariant-loop-call l =
    (blocks : List Block) → slice_get (taken_back l.k l.call-items blocks) l.at ≡ slice_get (taken_back l.k (drop l.call-index l.call-items) blocks) l.at
