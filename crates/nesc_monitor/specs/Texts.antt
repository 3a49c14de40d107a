-- Reading and judging the two texts.
use Rattle.std.specs.Prelude.{◌≡◌, ◌⊎◌, ℕ, List, Option, Some, None, Ok, Err}
use Rattle.nesc_requests.specs.Script.{Script}
use Rattle.nesc_requests.specs.declared.word.Word.{Word}
use Rattle.script_lang.specs.CommandsText.{commands_of}
use Rattle.script_lang.specs.ScheduleText.{schedule_of}
use Rattle.script_lang.specs.declared.fault.InputFault.{InputFault}
use Rattle.nesc_monitor.specs.Reading.{GivesTooMany, GivesWhole, TakesFront}
use Rattle.nesc_monitor.specs.Watched.{HasFailed, HasWorked, IsUntouched, Watched}
use Rattle.nesc_monitor.specs.declared.ending.Ending.{Ending}
use Rattle.nesc_monitor.specs.declared.ending.Ending.TheVariants.{Commands, Memory, Read, Schedule}

-- What a text says, by what its source had left, where that is told

-- the commands file says this script
abbrev pub SaysScript : Option (List ℕ) → Script → Type 0
SaysScript None script = Unit {0}
SaysScript (Some text) script = commands_of text ≡ Ok script

-- it is refused for this cause
abbrev pub SaysNoScript : Option (List ℕ) → InputFault → Type 0
SaysNoScript None fault = Unit {0}
SaysNoScript (Some text) fault = commands_of text ≡ Err fault

-- the schedule says these words, for a machine of so many functions
abbrev pub SaysWords : ℕ → Option (List ℕ) → List Word → Type 0
SaysWords functions None words = Unit {0}
SaysWords functions (Some text) words = schedule_of functions text ≡ Ok words

-- it is refused for this cause
abbrev pub SaysNoWords : ℕ → Option (List ℕ) → InputFault → Type 0
SaysNoWords functions None fault = Unit {0}
SaysNoWords functions (Some text) fault = schedule_of functions text ≡ Err fault

-- both are accepted
pub record AreAccepted (commands schedule : Option (List ℕ)) : Type 0 where
  pub script : Script
  pub words : List Word
  pub commands_say : SaysScript commands script
  pub schedule_says : SaysWords script.machine.functions schedule words

-- why a commands file and a schedule, as they were read, are refused
abbrev pub IsRefusal : Ending → List ℕ → List ℕ → Type 0
IsRefusal Memory commands schedule = Unit {0}
IsRefusal (Commands fault) commands schedule = commands_of commands ≡ Err fault
IsRefusal (Schedule fault) commands schedule =
    (script : Script) × (commands_of commands ≡ Ok script) × (schedule_of script.machine.functions schedule ≡ Err fault)
IsRefusal ending commands schedule = ⊥

-- How far the two were read

-- where the source did not fail, only the front of what it had left was taken
abbrev pub IsTakenFromFront : Watched → Type 0
IsTakenFromFront source = HasWorked source → TakesFront source.before source.after

-- all that the source had left was read
abbrev pub IsReadWhole : Watched → Type 0
IsReadWhole source = GivesWhole source.before source.after

-- the schedule is read only behind the whole of the commands
abbrev pub IsInTurn : Watched → Watched → Type 0
IsInTurn commands schedule = IsUntouched schedule ⊎ IsReadWhole commands

-- The commands are refused: too long, which is found before anything is read of the schedule, or once both are read.
pub record AreCommandsRefused (fault : InputFault) (commands schedule : Watched) : Type 0 where
  pub refused : SaysNoScript commands.before fault
  pub found : (GivesTooMany commands.before × IsUntouched schedule) ⊎ (IsReadWhole commands × IsReadWhole schedule)

-- The schedule is refused: too long for any machine, which is found while it is read; or for the machine of the
-- commands, once these are accepted.
pub record IsScheduleRefused (fault : InputFault) (commands schedule : Watched) : Type 0 where
  pub commands_read : IsReadWhole commands
  pub found : (GivesTooMany schedule.before × ((functions : ℕ) → SaysNoWords functions schedule.before fault))
      ⊎ ((script : Script) × SaysScript commands.before script
      × SaysNoWords script.machine.functions schedule.before fault × IsReadWhole schedule)

-- the commands' source failed, and the schedule's was not asked, or the commands were read and the schedule's failed
abbrev pub HasOneFailed : Watched → Watched → Type 0
HasOneFailed commands schedule =
    (HasFailed commands × IsUntouched schedule) ⊎ (IsReadWhole commands × HasFailed schedule)

-- why the texts were refused, or not read
abbrev pub AreRefusedFor : Ending → Watched → Watched → Type 0
AreRefusedFor Memory commands schedule = IsInTurn commands schedule
AreRefusedFor (Commands fault) commands schedule = AreCommandsRefused fault commands schedule
AreRefusedFor (Schedule fault) commands schedule = IsScheduleRefused fault commands schedule
AreRefusedFor Read commands schedule = HasOneFailed commands schedule
AreRefusedFor ending commands schedule = ⊥

-- both were read and accepted
pub record AreTaken (commands schedule : Watched) : Type 0 where
  pub commands_read : IsReadWhole commands
  pub schedule_read : IsReadWhole schedule
  pub accepted : AreAccepted commands.before schedule.before
