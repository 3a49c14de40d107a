-- What a commit writes, and what it leaves.
use Rattle.std.specs.Prelude.{◌≡◌, ◌⊎◌, ℕ, ◌+◌, ◌<◌, true, List, Contains, Some}
use Rattle.std.specs.Prelude.{Result, IsErr, OnOk, length, map, slice_get}
use Rattle.std.specs.FinMap.{empty}
use Rattle.std.specs.List.{range_with_len}
use Rattle.nesc_base.specs.declared.block.Block.{Block}
use Rattle.nesc_base.specs.declared.disk.DiskFault.{DiskFault}
use Rattle.nesc_base.specs.declared.geometry.Geometry.{Geometry}
use Rattle.nesc_base.specs.Block.{zero_block}
use Rattle.nesc_base.specs.Disk.{Goes, Known, WritesAt}
use Rattle.nesc_base.specs.Fault.{HasCause}
use Rattle.nesc_base.specs.Geometry.{list_blocks, slot_at}
use Rattle.slot_layout.specs.Slots.{AreClosed, gate, laid_over, list_at}
use Rattle.slot_layout.specs.Targets.{blocks_needed, list_block}
use Rattle.host_journal.specs.Kept.{IsKept, Leaves, StandsForEither}
use Rattle.host_journal.specs.Staged.{Staged, now_of, targets_of}

-- What a commit leaves in the first slot: its gate is zeros, and the first blocks of its list, as many as it needs, are
-- the list of the targets, with zeros behind the last.
pub record LeavesSlot (geometry : Geometry) (staged : Staged) (image : List Block) : Type 0 where
  pub gate : gate geometry image 1 ≡ zero_block
  pub list : (b : ℕ) → b < blocks_needed (length (targets_of staged))
      → slice_get image (list_at geometry 1 + b) ≡ Some (list_block (targets_of staged) b)

-- From old to new these blocks were written, each at its place and nothing else, up to the first write that failed.
pub record WritesOut (places : List ℕ) (blocks : List Block) (old new : Known)
    (result : Result (Unit {0}) DiskFault) : Type 0 where
  pub goes : Goes old new
  pub laid : old.tells ≡ true → OnOk result (new.contents ≡ laid_over places blocks old.contents)
  pub writes : WritesAt (Contains places) old new
  pub cause : HasCause old.faults new.faults (IsErr result)

-- the places of the list's blocks, and the blocks
abbrev pub list_places : Geometry → List ℕ → List ℕ
list_places geometry targets = range_with_len (list_at geometry 1) (blocks_needed (length targets))

abbrev pub blocks_of_list : List ℕ → List Block
blocks_of_list targets = map (list_block targets) (range_with_len 0 (blocks_needed (length targets)))

-- the places of the slot's blocks
abbrev pub data_places : Geometry → ℕ → List ℕ
data_places geometry count = range_with_len (list_at geometry 1 + list_blocks geometry) count

-- a commit writes the first slot, as much of it as it needs, and what is staged where it belongs
abbrev pub IsWrittenByCommit : Geometry → Staged → ℕ → Type 0
IsWrittenByCommit geometry staged at =
    (at ≡ slot_at geometry 1) ⊎ (Contains (list_places geometry (targets_of staged)) at
    ⊎ (Contains (data_places geometry (length (targets_of staged))) at ⊎ Contains (targets_of staged) at))

-- From old to new what is staged was committed, up to the first call that failed, over a disk that tells and has every
-- gate closed: every image on the way stands for the blocks of before or of after, and once all of it is done the disk
-- has kept those of after.
pub record Commits {T : Type 0} (geometry : Geometry) (staged : Staged) (old new : Known)
    (result : Result T DiskFault) : Type 0 where
  pub goes : Goes old new
  pub kept : old.tells ≡ true → AreClosed geometry old.contents → (kept : List Block) → IsKept geometry old kept
      → OnOk result (IsKept geometry new (now_of staged kept))
  pub closed : old.tells ≡ true → AreClosed geometry old.contents → OnOk result (AreClosed geometry new.contents)
  pub leaves : old.tells ≡ true → AreClosed geometry old.contents → (kept : List Block) → IsKept geometry old kept
      → Leaves (StandsForEither geometry kept (now_of staged kept)) old new
  pub slot : old.tells ≡ true → ¬ (staged ≡ empty) → OnOk result (LeavesSlot geometry staged new.contents)
  pub writes : WritesAt (IsWrittenByCommit geometry staged) old new
  pub cause : HasCause old.faults new.faults (IsErr result)
