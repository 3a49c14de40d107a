-- What the command `run` comes to.
use Rattle.std.specs.Prelude.{◌≡◌, ◌⊎◌, true, List}
use Rattle.nesc_base.specs.Disk.{Known}
use Rattle.nesc_requests.specs.Script.{Script}
use Rattle.nesc_requests.specs.declared.word.Word.{Word}
use Rattle.image_layout.specs.declared.fault.ImageFault.{ImageFault}
use Rattle.nesc_monitor.specs.Starting.{Course, FailsToOpen, GoesOnFrom, IsShutFor}
use Rattle.nesc_monitor.specs.Steps.{RanCutShort, RanToEnd, RanToFault}
use Rattle.nesc_monitor.specs.Texts.{AreTaken, IsInTurn, AreRefusedFor, SaysScript, SaysWords}
use Rattle.nesc_monitor.specs.Watched.{HasDiskFailed, HasFailed, HasTakenNothing}
use Rattle.nesc_monitor.specs.Watched.{IsDiskUntouched, IsOnlyRead, Watched, WatchedDisk}
use Rattle.nesc_monitor.specs.declared.ending.Ending.{Ending}
use Rattle.nesc_monitor.specs.declared.ending.Ending.TheVariants.{Done, Memory, Image, Device, Write}

-- The two texts say a script and words, and from the files as which the image opens a run of these went so. What is
-- said of a text holds where that tells; how the run went holds where the image tells, and of the sink where that does
-- too.
pub record Ran (course : Course) (commands schedule : Watched) (image : Known) : Type 0 where
  pub script : Script
  pub words : List Word
  pub commands_say : SaysScript commands.before script
  pub schedule_says : SaysWords script.machine.functions schedule.before words
  pub ran : GoesOnFrom course image script words

-- the sink took the whole trace, and the image has kept the files of its end
abbrev pub WritesTrace : Watched → Watched → WatchedDisk → Watched → Type 0
WritesTrace commands schedule image out =
    Ran (λ setting places state script words. RanToEnd setting places state script words image.before image.after
    out.before out.after) commands schedule image.before

-- the sink took the front of a trace
abbrev pub WritesFront : Watched → Watched → WatchedDisk → Watched → Type 0
WritesFront commands schedule image out =
    Ran (λ setting places state script words. RanCutShort setting places state script words image.before image.after
    out.before out.after) commands schedule image.before

-- the sink took the trace of the steps before one in which the disk failed
abbrev pub WritesToFault : Watched → Watched → WatchedDisk → Watched → Type 0
WritesToFault commands schedule image out =
    Ran (λ setting places state script words. RanToFault setting places state script words image.before image.after
    out.before out.after) commands schedule image.before

-- the disk failed while the image was opened, or in a step
abbrev pub FailsSo : Watched → Watched → WatchedDisk → Watched → Type 0
FailsSo commands schedule image out =
    FailsToOpen image.before image.after out ⊎ WritesToFault commands schedule image out

-- where the disk tells what it holds, that is refused for this cause
abbrev pub IsImageRefusedFor : ImageFault → WatchedDisk → Watched → Type 0
IsImageRefusedFor fault image out = image.before.tells ≡ true → IsShutFor fault image.before image.after out

-- the image is looked at once both texts are accepted
abbrev pub IsLookedAtLast : Watched → Watched → WatchedDisk → Type 0
IsLookedAtLast commands schedule image = IsDiskUntouched image ⊎ (AreTaken commands schedule × IsOnlyRead image)

-- What it comes to: the two sources, the image and the sink. The image is opened once both texts are accepted, so where
-- they were refused nothing was asked of it.
abbrev pub ComesOfRun : Ending → Watched → Watched → WatchedDisk → Watched → Type 0
ComesOfRun Done commands schedule image out = AreTaken commands schedule × WritesTrace commands schedule image out
ComesOfRun Write commands schedule image out =
    AreTaken commands schedule × HasFailed out × WritesFront commands schedule image out
ComesOfRun (Image fault) commands schedule image out = AreTaken commands schedule × IsImageRefusedFor fault image out
ComesOfRun Device commands schedule image out =
    AreTaken commands schedule × HasDiskFailed image × FailsSo commands schedule image out
ComesOfRun Memory commands schedule image out =
    IsInTurn commands schedule × IsLookedAtLast commands schedule image × HasTakenNothing out
ComesOfRun other commands schedule image out =
    AreRefusedFor other commands schedule × IsDiskUntouched image × HasTakenNothing out
