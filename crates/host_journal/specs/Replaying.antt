-- What the parts of a replay do.
use Rattle.std.specs.Prelude.{◌≡◌, ◌⊎◌, ℕ, ◌+◌, ◌-◌, ◌<◌, ◌≤◌, true, false, Bool, List}
use Rattle.std.specs.Prelude.{Result, IsErr, IsErrOf, OnOk, Some, slice_get, slice_index}
use Rattle.nesc_base.specs.declared.block.Block.{Block}
use Rattle.nesc_base.specs.declared.disk.DiskFault.{DiskFault}
use Rattle.nesc_base.specs.declared.geometry.Geometry.{Geometry}
use Rattle.nesc_base.specs.Block.{zero_block}
use Rattle.nesc_base.specs.Disk.{DiffersAt, Goes, IsSettled, Known, Unchanged, WritesAt, here, nowhere}
use Rattle.nesc_base.specs.Fault.{HasCause}
use Rattle.nesc_base.specs.Geometry.{slot_at, table_at}
use Rattle.slot_layout.specs.Gate.{is_open}
use Rattle.slot_layout.specs.Slots.{AreReplayed, LacksList, LaidOver, Lays, StandsFor, gate}
use Rattle.host_journal.specs.Kept.{Leaves}
use Rattle.host_journal.specs.Replays.{IsTarget, IsWrittenByReplay}
use Rattle.host_journal.specs.declared.journal.StartFault.{StartFault}
use Rattle.host_journal.specs.declared.journal.StartFault.TheVariants as fault

-- Judging

-- from old to new the disk was read alone, up to the first read that failed
pub record Reads (old new : Known) (failed : Type 0) : Type 0 where
  pub goes : Goes old new
  pub unchanged : Unchanged old new
  pub cause : HasCause old.faults new.faults failed

-- which of the four gates are open
abbrev pub AreGates : Geometry → List Block → List Bool → Type 0
AreGates geometry image open_gates = (k : ℕ) → 1 ≤ k → k ≤ 4
    → slice_get open_gates (k - 1) ≡ Some (is_open (gate geometry image k))

-- Where each block from the table on that the image has when it is laid stands before: in a slot, or at home (0). Those
-- in a slot are the targets of a list.
pub record AreSources (geometry : Geometry) (image laid : List Block) (sources : List ℕ) : Type 0 where
  pub home : (i : ℕ) → slice_index sources i ≡ 0
      → slice_get laid (table_at geometry + i) ≡ slice_get image (table_at geometry + i)
  pub slots : (i : ℕ) → 1 ≤ slice_index sources i
      → slice_get laid (table_at geometry + i) ≡ slice_get image (slice_index sources i)
  pub named : (i : ℕ) → 1 ≤ slice_index sources i → IsTarget geometry image (table_at geometry + i)

-- with the first n slots laid over
pub record AreLaid (geometry : Geometry) (image : List Block) (n : ℕ) (sources : List ℕ) : Type 0 where
  pub laid : List Block
  pub over : LaidOver geometry image n laid
  pub stand : AreSources geometry image laid sources

-- with those that are to be replayed
pub record AreJudged (geometry : Geometry) (image : List Block) (sources : List ℕ) : Type 0 where
  pub slots : ℕ
  pub replayed : AreReplayed geometry image slots
  pub laid : AreLaid geometry image slots sources

-- each stands below the table
abbrev pub AreLow : Geometry → List ℕ → Type 0
AreLow geometry sources = (i : ℕ) → slice_index sources i < table_at geometry

-- Writing

-- a slot has the block for this place
pub record IsSourced (geometry : Geometry) (sources : List ℕ) (at : ℕ) : Type 0 where
  pub index : ℕ
  pub some : 1 ≤ slice_index sources index
  pub place : at ≡ table_at geometry + index

-- From old to new the blocks that stand in slots were written home, up to the first call that failed.
pub record BringsHome (geometry : Geometry) (sources : List ℕ) (old new : Known)
    (result : Result (Unit {0}) DiskFault) : Type 0 where
  pub goes : Goes old new
  pub home : old.tells ≡ true → OnOk result ((i : ℕ) → 1 ≤ slice_index sources i
      → slice_get new.contents (table_at geometry + i) ≡ slice_get old.contents (slice_index sources i))
  pub writes : WritesAt (IsSourced geometry sources) old new
  pub cause : HasCause old.faults new.faults (IsErr result)

-- the place of a gate behind the first that was open
pub record IsOtherGate (geometry : Geometry) (open_gates : List Bool) (at : ℕ) : Type 0 where
  pub slot : ℕ
  pub some : 2 ≤ slot
  pub most : slot ≤ 4
  pub opened : slice_get open_gates (slot - 1) ≡ Some true
  pub place : at ≡ slot_at geometry slot

-- From old to new the open gates behind the first were closed, up to the first call that failed.
pub record ClosesOthers (geometry : Geometry) (open_gates : List Bool) (old new : Known)
    (result : Result (Unit {0}) DiskFault) : Type 0 where
  pub goes : Goes old new
  pub zeros : old.tells ≡ true
      → OnOk result ((at : ℕ) → IsOtherGate geometry open_gates at → slice_get new.contents at ≡ Some zero_block)
  pub settled : old.tells ≡ true → IsSettled old → OnOk result (IsSettled new)
  pub writes : WritesAt (IsOtherGate geometry open_gates) old new
  pub cause : HasCause old.faults new.faults (IsErr result)

-- From old to new a replay is on its way: with nothing unsynced at first every image stands for what the contents stood
-- for, and where a list is bad nothing was written.
pub record IsOnWay (geometry : Geometry) (old new : Known) : Type 0 where
  pub goes : Goes old new
  pub leaves : old.tells ≡ true → IsSettled old → (kept : List Block) → StandsFor geometry old.contents kept
      → Leaves (λ image. StandsFor geometry image kept) old new
  pub unwritten_where_bad : old.tells ≡ true → (block : ℕ) → LacksList geometry old.contents block
      → WritesAt nowhere old new
  pub writes : WritesAt (IsWrittenByReplay geometry old.contents) old new

-- the image is laid but for the first gate, which is closed
pub record IsLaidClosed (geometry : Geometry) (before image : List Block) : Type 0 where
  pub laid : List Block
  pub lays : Lays geometry before laid
  pub differs : DiffersAt (here (slot_at geometry 1)) laid image
  pub closed : is_open (gate geometry image 1) ≡ false

-- From old to new the slots that are to be replayed were, and the first gate was closed, up to the first call that
-- failed.
pub record ClosesFirst (geometry : Geometry) (old new : Known) (result : Result (Unit {0}) StartFault) : Type 0 where
  pub way : IsOnWay geometry old new
  pub laid : old.tells ≡ true → OnOk result (IsLaidClosed geometry old.contents new.contents)
  pub zeroed : old.tells ≡ true → is_open (gate geometry old.contents 1) ≡ true
      → OnOk result (gate geometry new.contents 1 ≡ zero_block)
  pub settled : old.tells ≡ true → IsSettled old → OnOk result (IsSettled new)
  pub bad_list : old.tells ≡ true → (block : ℕ) → LacksList geometry old.contents block
      → IsErrOf result (fault.BadList block) ⊎ IsErrOf result (fault.Disk _)
  pub no_other : old.tells ≡ true → (block : ℕ) → IsErrOf result (fault.BadList block)
      → LacksList geometry old.contents block
  pub unwritten : (block : ℕ) → IsErrOf result (fault.BadList block) → WritesAt nowhere old new
  pub cause : HasCause old.faults new.faults (IsErrOf result (fault.Disk _))
