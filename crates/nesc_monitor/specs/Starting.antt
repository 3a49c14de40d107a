-- Opening the image and taking the steps, once both texts are accepted.
use Rattle.std.specs.Prelude.{◌≡◌, ◌⊎◌, true, List}
use Rattle.nesc_base.specs.declared.block.Block.{Block}
use Rattle.nesc_base.specs.declared.geometry.Geometry.{Geometry}
use Rattle.nesc_base.specs.Disk.{IsSettled, Known, Unchanged, WritesAt, nowhere}
use Rattle.nesc_base.specs.Fault.{Rose}
use Rattle.nesc_base.specs.Files.{Files}
use Rattle.nesc_base.specs.Places.{Places}
use Rattle.nesc_requests.specs.Script.{Script}
use Rattle.nesc_requests.specs.declared.word.Word.{Word}
use Rattle.host_journal.specs.Kept.{Leaves}
use Rattle.slot_layout.specs.Slots.{StandsFor}
use Rattle.image_layout.specs.declared.fault.ImageFault.{ImageFault}
use Rattle.image_layout.specs.declared.fault.OpenFault.{OpenFault}
use Rattle.image_layout.specs.declared.fault.OpenFault.TheVariants.{NoMemory, Disk, Image}
use Rattle.image_layout.specs.Opens.{IsDivided, Opens}
use Rattle.image_layout.specs.Refusal.{IsRefused}
use Rattle.plain_machine.specs.State.{State, start}
use Rattle.plain_machine.specs.Traces.{setting_of}
use Rattle.plain_machine.specs.declared.setting.Setting.{Setting}
use Rattle.nesc_session.specs.Opening.{IsBeforeReplay}
use Rattle.nesc_session.specs.declared.fault.StepFault.TheVariants as step
use Rattle.nesc_monitor.specs.Steps.{RanCutShort, RanToEnd, RanToFault}
use Rattle.nesc_monitor.specs.Watched.{HasFailed, HasTakenNothing, Watched}
use Rattle.nesc_monitor.specs.declared.ending.Ending.{Ending}
use Rattle.nesc_monitor.specs.declared.ending.Ending.TheVariants as ending
use Rattle.nesc_monitor.specs.declared.fault.RunFault.{RunFault}
use Rattle.nesc_monitor.specs.declared.fault.RunFault.TheVariants as run

-- what it comes to that an image was not opened
abbrev pub ending_of : OpenFault → Ending
ending_of NoMemory = ending.Memory
ending_of (Disk fault) = ending.Device
ending_of (Image fault) = ending.Image fault

-- and that the words were not taken to their end
abbrev pub ending_of_run : RunFault → Ending
ending_of_run (run.Write fault) = ending.Write
ending_of_run (run.Step (step.Disk fault)) = ending.Device
ending_of_run (run.Step (step.Image fault)) = ending.Image fault

-- what becomes of a run from a state on, of the blocks of files that stand at these places, over a script and its words
abbrev pub Course : Type 1
Course = Setting → Places → State → Script → List Word → Type 0

-- so it went on from the files as which the image opens, where the disk tells what it holds
pub record GoesOn (course : Course) (image : List Block) (script : Script) (words : List Word) : Type 0 where
  pub geometry : Geometry
  pub files : Files
  pub places : Places
  pub opens : Opens image geometry files places
  pub goes_on : course (setting_of script geometry) places (start (setting_of script geometry) files) script words

abbrev pub GoesOnFrom : Course → Known → Script → List Word → Type 0
GoesOnFrom course image script words = image.tells ≡ true → GoesOn course image.contents script words

-- The image was not opened, and still stands for the same. Nothing is written where it is refused before its journal is
-- replayed.
pub record StaysShut (old new : Known) : Type 0 where
  pub stands : old.tells ≡ true
      → (geometry : Geometry) (kept : List Block) → IsDivided old.contents geometry → IsSettled old
      → StandsFor geometry old.contents kept → Leaves (λ image. StandsFor geometry image kept) old new

-- the image is refused for this cause, and nothing went out
pub record IsShutFor (fault : ImageFault) (old new : Known) (out : Watched) : Type 0 where
  pub refused : IsRefused old.contents fault
  pub silent : HasTakenNothing out
  pub stays : StaysShut old new
  pub unwritten : IsBeforeReplay fault → WritesAt nowhere old new

-- the disk failed while the image was opened, and nothing went out
pub record FailsToOpen (old new : Known) (out : Watched) : Type 0 where
  pub silent : HasTakenNothing out
  pub stays : StaysShut old new

-- all words were taken and told; or what is told of them was cut short; or a step failed, or the opening; or why none
-- was taken
abbrev pub StartsAndTells : Ending → Known → Known → Script → List Word → Watched → Type 0
StartsAndTells ending.Done old new script words out =
    GoesOnFrom (λ setting places state script words.
    RanToEnd setting places state script words old new out.before out.after) old script words
StartsAndTells ending.Write old new script words out =
    HasFailed out × GoesOnFrom (λ setting places state script words.
    RanCutShort setting places state script words old new out.before out.after) old script words
StartsAndTells ending.Device old new script words out =
    Rose old.faults new.faults
    × (FailsToOpen old new out
    ⊎ GoesOnFrom (λ setting places state script words.
    RanToFault setting places state script words old new out.before out.after) old script words)
StartsAndTells (ending.Image fault) old new script words out = old.tells ≡ true → IsShutFor fault old new out
StartsAndTells ending.Memory old new script words out = Unchanged old new × HasTakenNothing out
StartsAndTells other old new script words out = ⊥
