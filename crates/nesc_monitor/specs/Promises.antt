-- What `run` promises of a call. Of a source or a sink that does not tell its bytes nothing is said of these; of the
-- others all the same. Where a disk does not tell what it holds, nothing is said of that, nor of what the steps of a
-- run wrote.
use Rattle.std.specs.Prelude.{◌≡◌, ◌↔◌, ◌<◌, ◌≤◌}
use Rattle.nesc_base.specs.declared.geometry.Geometry.{Geometry}
use Rattle.nesc_requests.specs.Script.{Script}
use Rattle.script_lang.specs.declared.fault.InputFault.{InputFault}
use Rattle.nesc_base.specs.Disk.{Goes}
use Rattle.nesc_base.specs.Geometry.{total}
use Rattle.image_layout.specs.declared.fault.ImageFault.{ImageFault}
use Rattle.image_layout.specs.declared.fault.ImageFault.TheVariants.{BadSize}
use Rattle.nesc_monitor.specs.Call.{AreKnownAccepted, AreReadWell, Call, SaysNoCommand}
use Rattle.nesc_monitor.specs.Call.{IsKnownRefused, SaysMake, SaysRun, OpensKnown}
use Rattle.nesc_monitor.specs.Endings.{IsCarriedOut, IsEarly, IsImageRefused, IsInputRefused, IsOfMake}
use Rattle.nesc_monitor.specs.Endings.{IsOfTexts, IsPastTexts, LeavesAsBefore, LeavesMade, error_line, status_of}
use Rattle.nesc_monitor.specs.Making.{IsMade, made_text}
use Rattle.nesc_monitor.specs.Reading.{GivesTooMany, Tells}
use Rattle.nesc_monitor.specs.Running.{FailsSo, IsImageRefusedFor, IsLookedAtLast, WritesFront, WritesTrace}
use Rattle.nesc_monitor.specs.Texts.{AreAccepted, AreCommandsRefused, HasOneFailed, IsInTurn, IsReadWhole}
use Rattle.nesc_monitor.specs.Texts.{IsScheduleRefused, IsTakenFromFront, SaysNoScript, SaysNoWords, SaysScript}
use Rattle.nesc_monitor.specs.Watched.{DiskNeverFell, HasBegun, HasDiskFailed, HasDiskWorked, HasFailed, HasTaken}
use Rattle.nesc_monitor.specs.Watched.{HasTakenNothing, HasWorked, IsDiskUntouched, IsOnlyRead, IsUntouched, NeverFell}
use Rattle.nesc_monitor.specs.declared.ending.Ending.{Ending}
use Rattle.nesc_monitor.specs.declared.ending.Ending.TheVariants as ending
use Rattle.nesc_monitor.specs.declared.ending.Status.{Status}
use Rattle.nesc_monitor.specs.declared.ending.Status.TheVariants.{Done, Words, Memory, Image, Device, Read, Write}

-- What holds of every command. The outcome is a status, and says besides which text is refused, and why an image is.
pub record EveryCommand (status : Status) (outcome : Ending) (call : Call) : Type 0 where
  -- the status and the line on `err` are those of the outcome
  pub status_told : status ≡ status_of outcome
  pub line_told : HasWorked call.err → HasTaken (error_line outcome) call.err
  pub line_begun : HasBegun (error_line outcome) call.err
  -- the words are refused exactly where they are no command
  pub words : (status ≡ Words) ↔ SaysNoCommand call
  -- a failure is told only where one came, and nothing goes out before the first step
  pub device : status ≡ Device → HasDiskFailed call.image
  pub read : status ≡ Read → HasOneFailed call.commands call.schedule
  pub write : status ≡ Write → HasFailed call.out
  pub early : IsEarly status → HasTakenNothing call.out
  -- of a source that works the front alone is taken, at most one byte more than a text may have
  pub commands_taken : IsTakenFromFront call.commands
  pub schedule_taken : IsTakenFromFront call.schedule
  -- `spare` is the very value that it was, and `image` is changed by its calls alone
  pub spare : call.spare.same
  pub image_goes : Goes call.image.before call.image.after
  pub image_stays : call.image.stays
  -- no count of failures falls
  pub commands_never_fell : NeverFell call.commands
  pub schedule_never_fell : NeverFell call.schedule
  pub image_never_fell : DiskNeverFell call.image
  pub out_never_fell : NeverFell call.out
  pub err_never_fell : NeverFell call.err

-- What holds where the words are no command: nothing but `err` is asked for anything.
pub record OfNoCommand (outcome : Ending) (call : Call) : Type 0 where
  pub words : outcome ≡ ending.Words
  pub commands : IsUntouched call.commands
  pub schedule : IsUntouched call.schedule
  pub image : IsDiskUntouched call.image
  pub image_only_read : IsOnlyRead call.image
  pub any_moment : LeavesAsBefore call.image.before call.image.after
  pub out : IsUntouched call.out

-- What holds of the command `run`.
pub record OfRun (status : Status) (outcome : Ending) (call : Call) : Type 0 where
  -- what goes out, and what the image keeps
  pub done : status ≡ Done → WritesTrace call.commands call.schedule call.image call.out
  pub cut_short : status ≡ Write → WritesFront call.commands call.schedule call.image call.out
  pub failed : status ≡ Device → FailsSo call.commands call.schedule call.image call.out
  -- the texts, the commands first
  pub in_turn : IsInTurn call.commands call.schedule
  pub commands_read : IsPastTexts status → IsReadWhole call.commands
  pub schedule_read : IsPastTexts status → IsReadWhole call.schedule
  pub accepted : IsPastTexts status → AreAccepted call.commands.before call.schedule.before
  pub commands_refused : (fault : InputFault) → outcome ≡ ending.Commands fault
      → AreCommandsRefused fault call.commands call.schedule
  pub schedule_refused : (fault : InputFault) → outcome ≡ ending.Schedule fault
      → IsScheduleRefused fault call.commands call.schedule
  -- the image
  pub image_refused : (fault : ImageFault) → outcome ≡ ending.Image fault → IsImageRefusedFor fault call.image call.out
  pub image_untouched : IsOfTexts status → IsDiskUntouched call.image
  pub image_last : status ≡ Memory → IsLookedAtLast call.commands call.schedule call.image
  -- it follows
  pub too_long : Tells call.commands.before → GivesTooMany call.commands.before → IsUntouched call.schedule

-- What follows for the command `run` where neither source fails.
pub record OfRunReadWell (status : Status) (call : Call) : Type 0 where
  pub commands_refused : (fault : InputFault) → Tells call.commands.before
      → SaysNoScript call.commands.before fault → IsInputRefused status
  pub schedule_refused : (script : Script) (fault : InputFault) → Tells call.commands.before
      → SaysScript call.commands.before script
      → Tells call.schedule.before
      → SaysNoWords script.machine.functions call.schedule.before fault → IsInputRefused status
  pub image_refused : AreKnownAccepted call → IsKnownRefused call.image.before → HasDiskWorked call.image
      → IsImageRefused status
  pub carried_out : AreKnownAccepted call → OpensKnown call.image.before → HasDiskWorked call.image → HasWorked call.out
      → IsCarriedOut status call.out

-- What holds of the command `make`.
pub record OfMake (geometry : Geometry) (status : Status) (outcome : Ending) (call : Call) : Type 0 where
  pub statuses : IsOfMake status
  -- the image is made, and then the line goes out
  pub made : status ≡ Done → IsMade geometry call.image.before call.image.after
  pub line : status ≡ Done → HasTaken (made_text geometry) call.out
  pub cut_made : status ≡ Write → IsMade geometry call.image.before call.image.after
  pub cut_line : status ≡ Write → HasBegun (made_text geometry) call.out
  -- the disk is refused exactly where it is too small
  pub small : (status ≡ Image) ↔ (call.image.before.size < total geometry)
  pub small_told : (fault : ImageFault) → outcome ≡ ending.Image fault → fault ≡ BadSize call.image.before.size
  pub small_only_read : status ≡ Image → IsOnlyRead call.image
  pub small_silent : status ≡ Image → HasTakenNothing call.out
  pub failed_silent : status ≡ Device → HasTakenNothing call.out
  -- what a stop leaves on the way
  pub any_moment : LeavesMade geometry call.image.before call.image.after
  -- nothing is asked of the texts
  pub commands : IsUntouched call.commands
  pub schedule : IsUntouched call.schedule
  -- it follows
  pub carried_out : total geometry ≤ call.image.before.size → HasDiskWorked call.image → HasWorked call.out
      → status ≡ Done

-- What holds of every call.
pub record Promises (status : Status) (call : Call) : Type 0 where
  pub outcome : Ending
  pub every_command : EveryCommand status outcome call
  pub no_command : SaysNoCommand call → OfNoCommand outcome call
  pub run : SaysRun call → OfRun status outcome call
  pub run_read_well : SaysRun call → AreReadWell call → OfRunReadWell status call
  pub make : (geometry : Geometry) → SaysMake geometry call → OfMake geometry status outcome call
