-- The laws of the trait `Disk`, of a disk in memory.
use Rattle.std.specs.Prelude.{◌≡◌, ◌==◌, List, [], Contains}
use Rattle.std.proofs.Common.{refl, subst, arith}
use Rattle.std.proofs.lemmas.Bool.{cond-true, eq-eqb}
use Rattle.nesc_base.specs.declared.block.Block.{Block}
use Rattle.nesc_base.specs.Disk.{CouldLeave, DiffersAt}
use Rattle.nesc_fakes.specs.MemDisk.{MemDiskState, taken_back, contents_at, unsynced, IsLeft, known_of}

pub contents_at_now : (disk : MemDiskState) → contents_at disk disk.clock ≡ disk.blocks
contents_at_now disk = cond-true (disk.clock == disk.clock) disk.blocks (taken_back disk.clock disk.calls disk.blocks)
    (eq-eqb disk.clock disk.clock refl)

pub reads_as_left : (disk : MemDiskState) → IsLeft disk disk.clock disk.blocks
reads_as_left disk = record {
  by_now = omega arith;
  left = rw (contents_at_now disk) (record { whole = refl; others = λ at no. refl });
}

pub left_now : (disk : MemDiskState) (image : List Block) → IsLeft disk disk.clock image
    → CouldLeave (known_of disk) image
left_now disk image is_left =
    subst (λ (blocks : List Block). DiffersAt (Contains (unsynced disk.clock disk.calls [])) blocks image)
    (contents_at_now disk) is_left.left
