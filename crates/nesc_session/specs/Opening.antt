-- How the machine begins on a disk, and what a stop in that leaves.
use Rattle.std.specs.Prelude.{◌≡◌, ◌⊎◌, true, false, List, replicate, None, Result, IsErr, IsErrOf}
use Rattle.std.specs.FinMap.{empty}
use Rattle.nesc_base.specs.declared.block.Block.{Block}
use Rattle.nesc_base.specs.declared.geometry.Geometry.{Geometry}
use Rattle.nesc_base.specs.Disk.{IsSettled, Known, WritesAt, nowhere}
use Rattle.nesc_base.specs.Files.{Files}
use Rattle.nesc_base.specs.Places.{Places}
use Rattle.file_layer.specs.Layer.{no_files}
use Rattle.host_journal.specs.Kept.{Leaves}
use Rattle.host_journal.specs.Starting.{LeavesFromSync}
use Rattle.host_journal.specs.declared.journal.StartFault.{StartFault}
use Rattle.host_journal.specs.declared.journal.StartFault.TheVariants as start
use Rattle.image_layout.specs.declared.fault.ImageFault.{ImageFault}
use Rattle.image_layout.specs.declared.fault.ImageFault.TheVariants.{BadList, BadSize, BadSuper}
use Rattle.image_layout.specs.declared.fault.OpenFault.{OpenFault}
use Rattle.image_layout.specs.declared.fault.OpenFault.TheVariants as opening
use Rattle.image_layout.specs.Opens.{IsDivided, Opens}
use Rattle.slot_layout.specs.Slots.{StandsFor}
use Rattle.plain_machine.specs.Placing.{placed_at}
use Rattle.plain_machine.specs.State as state
use Rattle.plain_machine.specs.declared.setting.Setting.{Setting}
use Rattle.nesc_session.specs.Requests.{no_requests}
use Rattle.nesc_session.specs.Resting.{IsIn}
use Rattle.nesc_session.specs.declared.session.Session.{Session}

-- a machine that was not started yet
pub record IsNew (setting : Setting) (session : Session) : Type 0 where
  pub set : session.setting ≡ setting
  pub files : session.files ≡ no_files setting.geometry
  pub journal : session.journal ≡ record { geometry = setting.geometry; staged = empty; count = 0; started = false }
  pub attachments : session.attachments ≡ replicate setting.machine.functions None
  pub requests : session.requests.items ≡ replicate setting.machine.functions (no_requests setting.machine.queue)
  pub last : session.last ≡ 0

-- the image opened as some files, and the session is in the state in which the machine starts with these, whichever
-- they are
pub record StartsIn (session : Session) (image : List Block) (disk : Known) : Type 0 where
  pub some : (files : Files) × (places : Places) × Opens image session.setting.geometry files places
  pub starts : (files : Files) (places : Places) → Opens image session.setting.geometry files places
      → (kept : List Block) × IsIn session disk kept (state.start session.setting files) (placed_at places)

-- the image is refused before its journal is replayed
abbrev pub IsBeforeReplay : ImageFault → Type 0
IsBeforeReplay (BadSuper place) = Unit {0}
IsBeforeReplay (BadSize place) = Unit {0}
IsBeforeReplay (BadList place) = Unit {0}
IsBeforeReplay fault = ⊥

-- From the end of a first sync on, which succeeded, every image stands for what the contents stood for, or nothing was
-- written and the machine was not opened. Where nothing was unsynced at first, every image does. Nothing is written
-- where the image is refused before its journal is replayed.
pub record LeavesOpened {D T : Type 0} (known : D → Known) (old new : D) (result : Result T OpenFault) : Type 0 where
  pub synced : (known old).tells ≡ true
      → (geometry : Geometry) (kept : List Block) → IsDivided (known old).contents geometry
      → StandsFor geometry (known old).contents kept
      → LeavesFromSync known geometry kept old new ⊎ (IsErr result × WritesAt nowhere (known old) (known new))
  pub settled : (known old).tells ≡ true
      → (geometry : Geometry) (kept : List Block) → IsDivided (known old).contents geometry
      → IsSettled (known old) → StandsFor geometry (known old).contents kept
      → Leaves (λ image. StandsFor geometry image kept) (known old) (known new)
  pub unwritten : (fault : ImageFault) → IsErrOf result (opening.Image fault) → IsBeforeReplay fault
      → WritesAt nowhere (known old) (known new)

-- why the journal could not be started
abbrev pub open_fault_of : StartFault → OpenFault
open_fault_of (start.Disk disk) = opening.Disk disk
open_fault_of (start.BadList block) = opening.Image (BadList block)
