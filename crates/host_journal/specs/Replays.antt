-- Which slots of an image are to be replayed, what that writes, and what a stop in it leaves.
use Rattle.std.specs.Prelude.{◌≡◌, ◌⊎◌, ℕ, ◌≤◌, true, List, Result, IsErrOf, OnOk, Some, slice_get}
use Rattle.nesc_base.specs.declared.block.Block.{Block}
use Rattle.nesc_base.specs.declared.geometry.Geometry.{Geometry}
use Rattle.nesc_base.specs.Block.{zero_block}
use Rattle.nesc_base.specs.Disk.{Goes, IsSettled, Known, WritesAt, nowhere}
use Rattle.nesc_base.specs.Fault.{HasCause}
use Rattle.nesc_base.specs.Geometry.{slot_at}
use Rattle.slot_layout.specs.Gate.{is_open}
use Rattle.slot_layout.specs.Slots.{AreClosed, AreOpen, LacksList, StandsFor, gate, list_of}
use Rattle.slot_layout.specs.Targets.{IsListOf}
use Rattle.host_journal.specs.Kept.{IsKept, Leaves}
use Rattle.host_journal.specs.declared.journal.StartFault.{StartFault}
use Rattle.host_journal.specs.declared.journal.StartFault.TheVariants as fault

-- the place of a gate that is open
pub record IsOpenGate (geometry : Geometry) (image : List Block) (at : ℕ) : Type 0 where
  pub slot : ℕ
  pub some : 1 ≤ slot
  pub most : slot ≤ 4
  pub opened : is_open (gate geometry image slot) ≡ true
  pub place : at ≡ slot_at geometry slot

-- the list of a slot that is to be replayed names this place
pub record IsTarget (geometry : Geometry) (image : List Block) (at : ℕ) : Type 0 where
  pub slot : ℕ
  pub some : 1 ≤ slot
  pub most : slot ≤ 4
  pub opened : AreOpen geometry image slot
  pub targets : List ℕ
  pub list : IsListOf geometry (list_of geometry image slot) targets
  pub index : ℕ
  pub named : slice_get targets index ≡ Some at

-- a replay writes targets, and closes the gates that are open
abbrev pub IsWrittenByReplay : Geometry → List Block → ℕ → Type 0
IsWrittenByReplay geometry image at = IsOpenGate geometry image at ⊎ IsTarget geometry image at

-- the gates that were open are zeros
abbrev pub AreZeroed : Geometry → List Block → List Block → Type 0
AreZeroed geometry before image = (k : ℕ) → 1 ≤ k → k ≤ 4 → is_open (gate geometry before k) ≡ true
    → gate geometry image k ≡ zero_block

-- From old to new, with nothing unsynced at first, the slots that are to be replayed were, up to the first call that
-- failed: every image on the way stands for what the contents stood for, and once all of it is done the disk has kept
-- that.
pub record Replays (geometry : Geometry) (old new : Known) (result : Result (Unit {0}) StartFault) : Type 0 where
  pub goes : Goes old new
  pub stands : old.tells ≡ true
      → OnOk result ((kept : List Block) × AreClosed geometry kept × StandsFor geometry old.contents kept)
  pub kept : old.tells ≡ true → IsSettled old → (kept : List Block) → AreClosed geometry kept
      → StandsFor geometry old.contents kept → OnOk result (IsKept geometry new kept)
  pub closed : old.tells ≡ true → OnOk result (AreClosed geometry new.contents)
  pub zeroed : old.tells ≡ true → OnOk result (AreZeroed geometry old.contents new.contents)
  pub leaves : old.tells ≡ true → IsSettled old → (kept : List Block) → StandsFor geometry old.contents kept
      → Leaves (λ image. StandsFor geometry image kept) old new
  pub bad_list : old.tells ≡ true → (block : ℕ) → LacksList geometry old.contents block
      → IsErrOf result (fault.BadList block) ⊎ IsErrOf result (fault.Disk _)
  pub no_other : old.tells ≡ true → (block : ℕ) → IsErrOf result (fault.BadList block)
      → LacksList geometry old.contents block
  pub unwritten : (block : ℕ) → IsErrOf result (fault.BadList block) → WritesAt nowhere old new
  pub unwritten_where_bad : old.tells ≡ true → (block : ℕ) → LacksList geometry old.contents block
      → WritesAt nowhere old new
  pub writes : WritesAt (IsWrittenByReplay geometry old.contents) old new
  pub cause : HasCause old.faults new.faults (IsErrOf result (fault.Disk _))
