-- What the command `run` comes to, put together from what its parts say.
use Rattle.std.proofs.Common.{⊎_elim, inl, inr, List}
use Rattle.nesc_requests.specs.Script.{Script}
use Rattle.nesc_requests.specs.declared.word.Word.{Word}
use Rattle.nesc_monitor.specs.Running.{ComesOfRun, Ran}
use Rattle.nesc_monitor.specs.Starting.{Course, GoesOnFrom, StartsAndTells}
use Rattle.nesc_monitor.specs.Texts.{AreTaken, IsReadWhole, AreRefusedFor, SaysScript, SaysWords}
use Rattle.nesc_monitor.specs.Watched.{HasTakenNothing, IsDiskUntouched, Watched, WatchedDisk}
use Rattle.nesc_monitor.specs.declared.ending.Ending.{Ending}
use Rattle.nesc_monitor.specs.declared.ending.Ending.TheVariants.{Done, Words, Memory, Commands, Schedule, Image, Device, Read, Write}

-- the image was not looked at
pub ComesOfRun-refused : (ending : Ending) (commands schedule : Watched) (image : WatchedDisk) (out : Watched) → AreRefusedFor ending commands schedule → IsDiskUntouched image → HasTakenNothing out
    → ComesOfRun ending commands schedule image out
ComesOfRun-refused Done commands schedule image out refused unasked same = absurd refused
ComesOfRun-refused Words commands schedule image out refused unasked same = absurd refused
ComesOfRun-refused Memory commands schedule image out refused unasked same = (refused, inl unasked, same)
ComesOfRun-refused (Commands fault) commands schedule image out refused unasked same = (refused, unasked, same)
ComesOfRun-refused (Schedule fault) commands schedule image out refused unasked same = (refused, unasked, same)
ComesOfRun-refused (Image fault) commands schedule image out refused unasked same = absurd refused
ComesOfRun-refused Device commands schedule image out refused unasked same = absurd refused
ComesOfRun-refused Read commands schedule image out refused unasked same = (refused, unasked, same)
ComesOfRun-refused Write commands schedule image out refused unasked same = absurd refused

-- both texts were accepted, and then the image was opened and the steps were taken, as far as that went
pub ComesOfRun-steps : (ending : Ending) (commands schedule : Watched) (image : WatchedDisk) (out : Watched) (script : Script) (words : List Word) → SaysScript commands.before script → SaysWords script.machine.functions schedule.before words
    → IsReadWhole commands → IsReadWhole schedule → StartsAndTells ending image.before image.after script words out → ComesOfRun ending commands schedule image out
ComesOfRun-steps ending commands schedule image out script words one two read_one read_two steps = by_ending ending steps
  where
    taken : AreTaken commands schedule
    taken = record { commands_read = read_one; schedule_read = read_two; accepted = record { script = script; words = words; commands_say = one; schedule_says = two } }

    ran : (course : Course) → GoesOnFrom course image.before script words → Ran course commands schedule image.before
    ran course goes = record { script = script; words = words; commands_say = one; schedule_says = two; ran = goes }

    by_ending : (ending : Ending) → StartsAndTells ending image.before image.after script words out → ComesOfRun ending commands schedule image out
    by_ending Done steps = (taken, ran _ steps)
    by_ending Words steps = absurd steps
    by_ending Memory steps = (inr read_one, inr (taken, steps.0), steps.1)
    by_ending (Commands fault) steps = absurd steps
    by_ending (Schedule fault) steps = absurd steps
    by_ending (Image fault) steps = (taken, steps)
    by_ending Device steps = (taken, steps.0, ⊎_elim (λ fails. inl fails) (λ goes. inr (ran _ goes)) steps.1)
    by_ending Read steps = absurd steps
    by_ending Write steps = (taken, steps.0, ran _ steps.1)
