-- The trace of a schedule.
use Rattle.std.specs.Prelude.{◌≡◌, List, map}
use Rattle.nesc_base.specs.declared.geometry.Geometry.{Geometry}
use Rattle.nesc_base.specs.Files.{Files}
use Rattle.nesc_base.specs.Places.{Places}
use Rattle.nesc_requests.specs.Script.{Script}
use Rattle.nesc_requests.specs.declared.word.Word.{Word}
use Rattle.plain_machine.specs.Draws.{Draws, WordTaken, steps_made, words_in}
use Rattle.plain_machine.specs.Groups.{Group, told}
use Rattle.plain_machine.specs.Machine.{Run, StepTaken}
use Rattle.plain_machine.specs.Misses.{MeetsMissLaw}
use Rattle.plain_machine.specs.State.{State, start}
use Rattle.plain_machine.specs.declared.setting.Setting.{Setting}

-- a run of the plain machine that meets the law of misses, where the blocks of files stand at these places at its
-- beginning
pub record LegalRun (setting : Setting) (places : Places) (old : State) (steps : List StepTaken)
    (new : State) : Type 0 where
  pub run : Run setting old steps new
  pub law : MeetsMissLaw setting places steps

-- A legal trace: the words draw a legal run from the script, and each of them has a group of lines. They lead from the
-- old state to the new one, and leave the rest of the script.
pub record IsTrace (setting : Setting) (places : Places) (old : State) (script : Script) (words : List Word)
    (groups : List Group) (new : State) (rest : Script) : Type 0 where
  pub taken : List WordTaken
  pub words_taken : words_in taken ≡ words
  pub draws : Draws script taken rest
  pub run : LegalRun setting places old (steps_made taken) new
  pub groups_told : groups ≡ map told taken

-- the setting of a script over the files of an image that is divided so
abbrev pub setting_of : Script → Geometry → Setting
setting_of script geometry = record { machine = script.machine; geometry = geometry }

-- It is a legal trace of the words and the script over these files, at these places, of an image that is divided so.
pub record IsLegal (geometry : Geometry) (files : Files) (places : Places) (script : Script) (words : List Word)
    (groups : List Group) : Type 0 where
  pub new : State
  pub rest : Script
  pub trace : IsTrace (setting_of script geometry) places
      (start (setting_of script geometry) files) script words groups new rest
