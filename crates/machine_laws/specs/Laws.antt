-- Laws of the definitions.
use Rattle.std.specs.Prelude.{◌≡◌, ◌≢◌, ◌⊎◌, ℕ, ◌+◌, ◌≤◌, true, List, [], ◌∷◌, length, Some}
use Rattle.std.specs.List.{AllByRecursion}
use Rattle.nesc_base.specs.Files.{IsFileSet}
use Rattle.nesc_base.specs.Places.{Places}
use Rattle.nesc_requests.specs.Script.{IsWithinLimits, Script}
use Rattle.nesc_requests.specs.declared.event.Event.{Event}
use Rattle.nesc_requests.specs.declared.event.Event.TheVariants.{Host, Restart, Tick}
use Rattle.nesc_requests.specs.declared.word.Word.{Word}
use Rattle.file_model.specs.Files.{Change, staged}
use Rattle.plain_machine.specs.Functions.{AreSound, is_runnable, next_runnable}
use Rattle.plain_machine.specs.Given.{AreGivenAlike}
use Rattle.plain_machine.specs.Groups.{Group}
use Rattle.plain_machine.specs.Machine.{Run, Step, StepTaken}
use Rattle.plain_machine.specs.Misses.{HasNoTrees}
use Rattle.machine_laws.specs.Staging.{AreStaged}
use Rattle.plain_machine.specs.State.{State}
use Rattle.plain_machine.specs.Traces.{IsTrace}
use Rattle.plain_machine.specs.declared.outcome.Outcome.{Outcome}
use Rattle.plain_machine.specs.declared.setting.Setting.{Setting}

-- what the host asks for is within the limits
abbrev pub MayCome : Event → Type 0
MayCome (Host command) = IsWithinLimits command
MayCome event = Unit {0}

-- the files of the state are as files may be, those that there are now and those that were kept
pub record HasFileSets (state : State) : Type 0 where
  pub now : IsFileSet state.now
  pub kept : IsFileSet state.kept

-- an event leaves files as they may be, whatever the state is that it comes to
abbrev pub KeepsSets : Event → Type 0
KeepsSets event =
    MayCome event
    → (setting : Setting) (old : State) (changes : List Change) (outcome : Outcome) (new : State) → HasFileSets old
    → Step setting old event changes outcome new → HasFileSets new

-- an event leaves as many functions, and for each of them that waits a request waits
abbrev pub KeepsFunctions : Event → Type 0
KeepsFunctions event =
    (setting : Setting) (old : State) (changes : List Change) (outcome : Outcome) (new : State)
    → Step setting old event changes outcome new
    → (length new.functions ≡ length old.functions) × (AreSound old.functions → AreSound new.functions)

-- in whatever state with files as they may be, the changes of an event stage as many blocks as its answer says, each of
-- them once
abbrev pub CountsStaged : Event → Type 0
CountsStaged event =
    (setting : Setting) (old : State) (changes : List Change) (outcome : Outcome) (new : State)
    → IsFileSet old.now → Step setting old event changes outcome new
    → AreStaged old event outcome.answer (staged changes)

-- In whatever state with files as they may be, an event makes one list of changes, comes to one outcome and leaves one
-- state, where what is given to the machine is the same: the definition leaves no other choice.
abbrev pub HasOneStep : Event → Type 0
HasOneStep event =
    (setting : Setting) (old : State) (here there : List Change) (one other : Outcome) (first second : State) →
    IsFileSet old.now
    → AreGivenAlike one other → Step setting old event here one first → Step setting old event there other second
    → (here ≡ there) × (one ≡ other) × (first ≡ second)

-- in whatever state in which the functions are as they may be, an event has a step, and one in which there are no trees
abbrev pub HasStep : Event → Type 0
HasStep event =
    (setting : Setting) (old : State) → AreSound old.functions
    → (changes : List Change) × (outcome : Outcome) × (new : State)
    × Step setting old event changes outcome new
    × HasNoTrees outcome

-- whatever words come and whatever there is to give, the machine has a trace of them from this state on
abbrev pub IsNeverStuck : Setting → Places → State → Type 0
IsNeverStuck setting places old =
    (script : Script) (words : List Word) → (groups : List Group) × (new : State) × (rest : Script)
    × IsTrace setting places old script words groups new rest

-- Turns

-- how many of the steps are ticks
abbrev pub one_if_tick : Event → ℕ
one_if_tick Tick = 1
one_if_tick event = 0

abbrev pub ticks_in : List StepTaken → ℕ
ticks_in [] = 0
ticks_in (step ∷ steps) = one_if_tick step.event + ticks_in steps

-- the step is no restart, and a tick comes where the function is runnable
pub record KeepsRunnable (f : ℕ) (step : StepTaken) : Type 0 where
  pub goes_on : step.event ≢ Restart
  pub runnable : step.event ≡ Tick → is_runnable step.old.functions f ≡ true

-- one of the steps is a tick that takes the function
abbrev pub IsTakenIn : ℕ → List StepTaken → Type 0
IsTakenIn f [] = ⊥
IsTakenIn f (step ∷ steps) =
    ((step.event ≡ Tick) × (next_runnable step.old.functions step.old.last ≡ Some f)) ⊎ IsTakenIn f steps

-- Where a function is runnable before each of as many ticks as there are functions, with no restart among them, one of
-- them takes it.
abbrev pub IsTakenInTime : Setting → ℕ → Type 0
IsTakenInTime setting f =
    (old : State) (steps : List StepTaken) (new : State) → 1 ≤ length old.functions
    → length old.functions ≤ ticks_in steps
    → AllByRecursion (KeepsRunnable f) steps → Run setting old steps new → IsTakenIn f steps
