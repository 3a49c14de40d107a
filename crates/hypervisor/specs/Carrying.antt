-- What the host does for a command: the step of the plain machine, over whatever files the blocks show.
use Rattle.std.specs.Prelude.{◌≡◌, ℕ, ◌+◌, ◌-◌, true, List, Option, None, Some}
use Rattle.std.specs.Int.{bit_at}
use Rattle.nesc_base.specs.declared.block.Block.{Block}
use Rattle.nesc_base.specs.declared.numbers.FileNo.{FileNo}
use Rattle.nesc_base.specs.Disk.{Known}
use Rattle.nesc_base.specs.Files.{Files}
use Rattle.nesc_base.specs.Places.{Places}
use Rattle.nesc_requests.specs.Buffers.{answer_buffers, command_buffers}
use Rattle.nesc_requests.specs.declared.host.HostAnswer.{HostAnswer}
use Rattle.nesc_requests.specs.declared.host.HostAnswer.TheVariants.{Exists, NoSlot, NoFile, Range, NoSpace, Media}
use Rattle.nesc_requests.specs.declared.host.HostCommand.{HostCommand}
use Rattle.nesc_requests.specs.declared.host.HostCommand.TheVariants.{Sync, Regs}
use Rattle.file_layer.specs.Layer.{IsUsed, Layer, area_of}
use Rattle.file_layer.specs.declared.files.FileFault.{FileFault}
use Rattle.file_layer.specs.declared.files.FileFault.TheVariants as fault
use Rattle.file_layer.specs.Showing.{Shows}
use Rattle.file_model.specs.Files.{Change, LeadsTo, staged}
use Rattle.file_model.specs.Places.{AreMoved}
use Rattle.host_journal.specs.Journal.{Journal}
use Rattle.host_journal.specs.Kept.{IsKept}
use Rattle.plain_machine.specs.Functions.{Function}
use Rattle.plain_machine.specs.HostCommands.{HostStep}
use Rattle.hypervisor.specs.Attachments.{AreFunctions, Attachments, file_numbers, file_of}
use Rattle.hypervisor.specs.Telling.{TellsDevice, told}
use Rattle.hypervisor.specs.declared.change.HostDone.{HostDone}

-- a `sync` and the reading of registers are for whoever has the device
abbrev pub IsForHost : HostCommand → Type 0
IsForHost Sync = ⊥
IsForHost (Regs f) = ⊥
IsForHost command = Unit {0}

-- The files that the blocks showed change so, with their places, and the blocks show those that they become. So many
-- blocks are counted as staged.
pub record Carries (old : Layer) (before : Journal) (kept : List Block) (set : Files) (places : Places)
    (changes : List Change) (new : Layer) (after : Journal) : Type 0 where
  pub others : Files
  pub elsewhere : Places
  pub leads : LeadsTo set changes others
  pub moves : AreMoved (area_of old.geometry) places changes elsewhere
  pub shows : Shows new after.staged kept others elsewhere
  pub counted : after.count ≡ before.count + staged changes

-- The command is answered, and the files and the functions change, by one step of the machine.
pub record DoesCommand (attachments : Attachments) (old : Layer) (before : Journal) (kept : List Block)
    (set : Files) (places : Places)
    (functions : List Function) (command : HostCommand) (done : HostDone) (attached : Attachments) (new : Layer)
    (after : Journal) : Type 0 where
  pub changes : List Change
  pub step :
      HostStep old.geometry.blocks set functions command done.answer changes (told done.change attached functions)
  pub carries : Carries old before kept set places changes new after
  pub tells : TellsDevice set functions command done.answer done.change
  pub files : file_numbers (told done.change attached functions) ≡ attached

-- so it is for whatever files these blocks show, and whatever functions have these files
abbrev pub DoesOver : List Block → Attachments → ℕ → Layer → Journal → HostCommand → HostDone → Attachments
    → Layer → Journal → Type 0
DoesOver kept attachments queued old before command done attached new after =
    (set : Files) (places : Places) (functions : List Function) → Shows old before.staged kept set places
    → AreFunctions attachments queued functions
    → DoesCommand attachments old before kept set places functions command done attached new after

-- and whatever blocks a disk has kept, if it tells
abbrev pub DoesOnDisk : Known → Attachments → ℕ → Layer → Journal → HostCommand → HostDone → Attachments
    → Layer → Journal → Type 0
DoesOnDisk disk attachments queued old before command done attached new after =
    disk.tells ≡ true → (kept : List Block) → IsKept before.geometry disk kept
    → DoesOver kept attachments queued old before command done attached new after

-- Functions and their files, over any disk

-- each file that a function has stands
abbrev pub AreUsed : Attachments → Layer → Type 0
AreUsed attachments files = (f : ℕ) (file : FileNo) → file_of attachments f ≡ Some file → IsUsed files file.0

-- so it is after a command, where it was so before
abbrev pub KeepsUsed : Attachments → Layer → Attachments → Layer → Type 0
KeepsUsed old files new others = AreUsed old files → AreUsed new others

-- a function loses its file only where no request waits for it
abbrev pub OnlyIdleGo : ℕ → Attachments → Attachments → Type 0
OnlyIdleGo queued old new = (f : ℕ) (file : FileNo) → file_of old f ≡ Some file → file_of new f ≡ None
    → bit_at queued (f - 1) ≡ 0

-- Buffers

-- those that are spent
abbrev pub spent_buffers : {A : Type 0} → Option A → ℕ
spent_buffers None = 0
spent_buffers (Some blocks) = 1

-- what the command brought stands in the answer, or is spent
abbrev pub IsSpent : HostCommand → HostDone → Type 0
IsSpent command done = spent_buffers done.spent + answer_buffers done.answer ≡ command_buffers command

-- how a call on files is refused
abbrev pub refusal_of : FileFault → HostAnswer
refusal_of fault.Exists = Exists
refusal_of fault.NoSlot = NoSlot
refusal_of fault.NoFile = NoFile
refusal_of fault.Range = Range
refusal_of (fault.NoSpace free needed) = NoSpace free needed
refusal_of fault.Media = Media
