-- What a start does to a disk, and what a stop in it leaves.
use Rattle.std.specs.Prelude.{◌≡◌, ◌⊎◌, ℕ, true, List, Result, IsErrOf, OnOk}
use Rattle.nesc_base.specs.declared.block.Block.{Block}
use Rattle.nesc_base.specs.declared.geometry.Geometry.{Geometry}
use Rattle.nesc_base.specs.Disk.{Goes, IsSettled, Known, WritesAt, nowhere}
use Rattle.nesc_base.specs.Fault.{HasCause}
use Rattle.slot_layout.specs.Slots.{AreClosed, LacksList, StandsFor}
use Rattle.host_journal.specs.Kept.{IsKept, Leaves}
use Rattle.host_journal.specs.Replays.{AreZeroed, IsWrittenByReplay}
use Rattle.host_journal.specs.declared.journal.StartFault.{StartFault}
use Rattle.host_journal.specs.declared.journal.StartFault.TheVariants as fault

-- A sync has succeeded: the disk reads as before, and a stop leaves just that.
pub record IsSynced (old new : Known) : Type 0 where
  pub goes : Goes old new
  pub contents : old.tells ≡ true → new.contents ≡ old.contents
  pub settled : old.tells ≡ true → IsSettled new
  pub writes : WritesAt nowhere old new

-- From the end of a first sync on, which succeeded, every image stands for these blocks.
pub record LeavesFromSync {D : Type 0} (known : D → Known) (geometry : Geometry) (kept : List Block)
    (old new : D) : Type 0 where
  pub synced : D
  pub sync : IsSynced (known old) (known synced)
  pub goes : Goes (known synced) (known new)
  pub leaves : Leaves (λ image. StandsFor geometry image kept) (known synced) (known new)

-- A start, over a disk that tells: what the disk stood for it has kept now, and every image on the way stands for it
-- too.
pub record Starts {D : Type 0} (known : D → Known) (geometry : Geometry) (old new : D)
    (result : Result (Unit {0}) StartFault) : Type 0 where
  -- it stood for something, and has kept what it stood for, with every gate closed
  pub stands : (known old).tells ≡ true
      → OnOk result ((kept : List Block) × AreClosed geometry kept × StandsFor geometry (known old).contents kept)
  pub kept : (known old).tells ≡ true → (kept : List Block) → AreClosed geometry kept
      → StandsFor geometry (known old).contents kept → OnOk result (IsKept geometry (known new) kept)
  pub closed : (known old).tells ≡ true → OnOk result (AreClosed geometry (known new).contents)
  -- a list is bad exactly where a slot that is to be replayed has none, and then nothing is written, whatever else
  -- fails
  pub bad_list : (known old).tells ≡ true → (block : ℕ) → LacksList geometry (known old).contents block
      → IsErrOf result (fault.BadList block) ⊎ IsErrOf result (fault.Disk _)
  pub no_other : (known old).tells ≡ true → (block : ℕ) → IsErrOf result (fault.BadList block)
      → LacksList geometry (known old).contents block
  pub unwritten : (block : ℕ) → IsErrOf result (fault.BadList block) → WritesAt nowhere (known old) (known new)
  pub unwritten_where_bad : (known old).tells ≡ true → (block : ℕ) → LacksList geometry (known old).contents block
      → WritesAt nowhere (known old) (known new)
  -- from the end of the first sync on every image stands for what the disk stood for, or the disk failed before
  -- anything was written; where nothing was unsynced at first, every image does
  pub leaves : (known old).tells ≡ true → (kept : List Block) → StandsFor geometry (known old).contents kept
      → LeavesFromSync known geometry kept old new
      ⊎ (IsErrOf result (fault.Disk _) × WritesAt nowhere (known old) (known new))
  pub leaves_settled : (known old).tells ≡ true → IsSettled (known old)
      → (kept : List Block) → StandsFor geometry (known old).contents kept
      → Leaves (λ image. StandsFor geometry image kept) (known old) (known new)
  -- only targets and open gates are written, and those gates are zeros in the end
  pub writes : WritesAt (IsWrittenByReplay geometry (known old).contents) (known old) (known new)
  pub zeroed : (known old).tells ≡ true → OnOk result (AreZeroed geometry (known old).contents (known new).contents)
  pub goes : Goes (known old) (known new)
  pub cause : HasCause (known old).faults (known new).faults (IsErrOf result (fault.Disk _))
