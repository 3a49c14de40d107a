-- One call of `run`.
use Rattle.std.specs.Prelude.{◌≡◌, ℕ, true, List, Some, None}
use Rattle.nesc_base.specs.declared.geometry.Geometry.{Geometry}
use Rattle.nesc_base.specs.Disk.{Known}
use Rattle.nesc_base.specs.Files.{Files}
use Rattle.nesc_base.specs.Places.{Places}
use Rattle.image_layout.specs.declared.fault.ImageFault.{ImageFault}
use Rattle.image_layout.specs.Opens.{Opens}
use Rattle.image_layout.specs.Refusal.{IsRefused}
use Rattle.nesc_monitor.specs.Reading.{Tells}
use Rattle.nesc_monitor.specs.Texts.{AreAccepted}
use Rattle.nesc_monitor.specs.Watched.{HasWorked, Watched, WatchedDisk}
use Rattle.nesc_monitor.specs.Words.{command_of}
use Rattle.nesc_monitor.specs.declared.words.Command.TheVariants.{Run, Make}

-- The words of the command line, and each source, disk and sink before and after the call.
pub record Call : Type 1 where
  pub words : List (List ℕ)
  pub commands : Watched
  pub schedule : Watched
  pub image : WatchedDisk
  pub spare : WatchedDisk
  pub out : Watched
  pub err : Watched

-- the words are no command
abbrev pub SaysNoCommand : Call → Type 0
SaysNoCommand call = command_of call.words ≡ None

-- they are the command `run`
abbrev pub SaysRun : Call → Type 0
SaysRun call = command_of call.words ≡ Some Run

-- they are the command `make`
abbrev pub SaysMake : Geometry → Call → Type 0
SaysMake geometry call = command_of call.words ≡ Some (Make geometry)

-- Neither source failed.
pub record AreReadWell (call : Call) : Type 0 where
  pub commands : HasWorked call.commands
  pub schedule : HasWorked call.schedule

-- Both texts are known, and accepted.
pub record AreKnownAccepted (call : Call) : Type 0 where
  pub commands_known : Tells call.commands.before
  pub schedule_known : Tells call.schedule.before
  pub accepted : AreAccepted call.commands.before call.schedule.before

-- It is known what the disk holds, and that opens.
pub record OpensKnown (disk : Known) : Type 0 where
  pub known : disk.tells ≡ true
  pub geometry : Geometry
  pub files : Files
  pub places : Places
  pub opens : Opens disk.contents geometry files places

-- It is known what the disk holds, and that is refused.
pub record IsKnownRefused (disk : Known) : Type 0 where
  pub known : disk.tells ≡ true
  pub fault : ImageFault
  pub refused : IsRefused disk.contents fault
