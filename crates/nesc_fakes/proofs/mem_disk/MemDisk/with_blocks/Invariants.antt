use Rattle.std.proofs.Common.{◌≡◌, drop, replicate}
use Rattle.nesc_base.specs.Block.{zero_block}
use Rattle.nesc_fakes.specs.MemDisk.{put_all}
use Rattle.nesc_fakes.proofs.mem_disk.MemDisk.with_blocks.Given as goal

-- the blocks that are left make of the image what all make of zeros
abbrev pub invariant-loop-at : goal.invariant-loop-at
invariant-loop-at l = put_all (drop l.at-index l.blocks) l.image.items ≡ put_all l.blocks (replicate l.size zero_block)
