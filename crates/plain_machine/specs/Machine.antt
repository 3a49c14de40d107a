-- A step of the plain machine, and a run.
use Rattle.std.specs.Prelude.{◌≡◌, ℕ, ◌+◌, ◌<◌, nat_lt, if◌then◌else◌, Bool, true}
use Rattle.std.specs.Prelude.{false, List, [], ◌∷◌, map, Option, Some, None, is_some}
use Rattle.nesc_base.specs.declared.numbers.FnNo.{FnNo}
use Rattle.nesc_requests.specs.Requests.{is_write}
use Rattle.nesc_requests.specs.declared.event.Event.{Event}
use Rattle.nesc_requests.specs.declared.event.Event.TheVariants.{Submit, Tick, Host, Handle}
use Rattle.nesc_requests.specs.declared.event.Event.TheVariants.{Prune, PruneAt, Evict, Restart}
use Rattle.nesc_requests.specs.declared.host.HostAnswer.{HostAnswer}
use Rattle.nesc_requests.specs.declared.host.HostCommand.{HostCommand}
use Rattle.nesc_requests.specs.declared.host.HostCommand.TheVariants.{Sync}
use Rattle.nesc_requests.specs.declared.request.Queued.{Queued}
use Rattle.nesc_requests.specs.declared.request.Request.{Request}
use Rattle.nesc_base.specs.Files.{Files}
use Rattle.file_model.specs.Files.{Change, LeadsTo, free, staged}
use Rattle.plain_machine.specs.Functions.{Becomes, Function, function_at, next_runnable, off, queue_of}
use Rattle.plain_machine.specs.Handlings.{FindsSpace, Handles}
use Rattle.plain_machine.specs.HostCommands.{HostStep}
use Rattle.plain_machine.specs.State.{State, committed}
use Rattle.plain_machine.specs.Submissions.{Submits}
use Rattle.plain_machine.specs.Ticks.{Ticks}
use Rattle.plain_machine.specs.declared.outcome.Answer.{Answer}
use Rattle.plain_machine.specs.declared.outcome.Answer.TheVariants as happened
use Rattle.plain_machine.specs.declared.outcome.Built.{Built}
use Rattle.plain_machine.specs.declared.outcome.Outcome.{Outcome}
use Rattle.plain_machine.specs.declared.setting.Setting.{Setting}

-- Events: what one comes to, with its changes of the files, the functions that it leaves, and which was taken last

-- a request was handed to a function
pub record HandsIn (setting : Setting) (old : State) (f : FnNo) (request : Request) (outcome : Outcome)
    (changes : List Change) (functions : List Function) (last : ℕ) : Type 0 where
  pub submits : Becomes
      (λ before after. Submits setting.machine.queue before request outcome.answer after) f.0 old.functions functions
  pub no_commit : outcome.after ≡ None
  pub silent : outcome.reply ≡ None
  pub unchanged : changes ≡ []
  pub same_last : last ≡ old.last

-- a `sync` commits, and no other command of the host does
abbrev pub is_sync : HostCommand → Bool
is_sync Sync = true
is_sync command = false

-- the host's command was answered
pub record AnswersHost (setting : Setting) (old : State) (command : HostCommand) (outcome : Outcome)
    (changes : List Change) (functions : List Function) (last : ℕ) : Type 0 where
  pub said : HostAnswer
  pub answers : HostStep setting.geometry.blocks old.now old.functions command said changes functions
  pub told : outcome.answer ≡ happened.Host said
  pub commits : is_some outcome.after ≡ is_sync command
  pub silent : outcome.reply ≡ None
  pub same_last : last ≡ old.last

-- the host handled what a function waits for
pub record AnswersHandling (setting : Setting) (old : State) (f : FnNo) (outcome : Outcome) (changes : List Change)
    (functions : List Function) (last : ℕ) : Type 0 where
  pub handles : Becomes (λ before after. Handles old.now f before outcome changes after) f.0 old.functions functions
  pub finds : FindsSpace (free setting.geometry.blocks old.now) old.now (function_at old.functions f.0) outcome.answer
  pub same_last : last ≡ old.last

-- what the host gives up of trees and of their cache changes nothing here
pub record GivesUp (old : State) (told : Answer → Type 0) (outcome : Outcome) (changes : List Change)
    (functions : List Function) (last : ℕ) : Type 0 where
  pub tells : told outcome.answer
  pub no_commit : outcome.after ≡ None
  pub silent : outcome.reply ≡ None
  pub unchanged : changes ≡ []
  pub same : functions ≡ old.functions
  pub same_last : last ≡ old.last

abbrev pub TellsLeaf : FnNo → Answer → Type 0
TellsLeaf f answer = (leaf : Option (ℕ × ℕ)) × (answer ≡ happened.PrunedAt f leaf)

abbrev pub ComesTo : Setting → State → Event → Outcome → List Change → List Function → ℕ → Type 0
ComesTo setting old (Submit f request) outcome changes functions last =
    HandsIn setting old f request outcome changes functions last
ComesTo setting old Tick outcome changes functions last = Ticks old outcome changes functions last
ComesTo setting old (Host command) outcome changes functions last =
    AnswersHost setting old command outcome changes functions last
ComesTo setting old (Handle f) outcome changes functions last =
    AnswersHandling setting old f outcome changes functions last
ComesTo setting old (Prune f) outcome changes functions last =
    GivesUp old (λ told. told ≡ happened.Pruned f) outcome changes functions last
ComesTo setting old (PruneAt f v) outcome changes functions last =
    GivesUp old (TellsLeaf f) outcome changes functions last
ComesTo setting old Evict outcome changes functions last =
    GivesUp old (λ told. told ≡ happened.Evicted) outcome changes functions last
ComesTo setting old Restart outcome changes functions last = ⊥

-- a path of a tree is built in a handling alone
abbrev pub MayBuild : Event → Option Built → Type 0
MayBuild (Handle f) built = Unit {0}
MayBuild event built = built ≡ None

-- the changes lead to the files that there are now; the commit that the event made, if it made one, keeps them
pub record Moves (setting : Setting) (old : State) (event : Event) (changes : List Change) (outcome : Outcome)
    (new : State) : Type 0 where
  pub files : Files
  pub functions : List Function
  pub last : ℕ
  pub comes : ComesTo setting old event outcome changes functions last
  pub builds : MayBuild event outcome.built
  pub leads : LeadsTo old.now changes files
  pub result : new ≡ committed outcome.after
      (record { now = files; kept = old.kept; functions = functions; last = last; count = old.count + staged changes })

-- the function without its file and its requests, which get no reply; the numbers of requests go on
abbrev pub restarted : Function → Function
restarted function = record off { next = function.next }

-- the files are those that were kept, all functions are off, and nothing is staged; no tree is named that goes
pub record Restarts (old : State) (changes : List Change) (outcome : Outcome) (new : State) : Type 0 where
  pub told : outcome.answer ≡ happened.Restarted
  pub no_drops : outcome.drops ≡ 0
  pub no_path : outcome.built ≡ None
  pub no_commit : outcome.after ≡ None
  pub silent : outcome.reply ≡ None
  pub unchanged : changes ≡ []
  pub result :
      new ≡ record { now = old.kept; kept = old.kept; functions = map restarted old.functions; last = 0; count = 0 }

-- what the event does
abbrev pub Does : Setting → State → Event → List Change → Outcome → State → Type 0
Does setting old Restart changes outcome new = Restarts old changes outcome new
Does setting old event changes outcome new = Moves setting old event changes outcome new

-- Commits

-- the request that is first for a function is a write
abbrev pub starts_with_write : List Queued → Bool
starts_with_write [] = false
starts_with_write (head ∷ rest) = is_write head.request

abbrev pub has_write_first : Function → Bool
has_write_first function = starts_with_write (queue_of function)

-- a tick needs room for one data block where the function that is next has a write first, whatever the tick meets
abbrev pub needed_by_tick : List Function → Option ℕ → ℕ
needed_by_tick functions None = 0
needed_by_tick functions (Some f) = if has_write_first (function_at functions f) then 1 else 0

-- for how many data blocks an event needs room that makes these changes: for as many as they stage, but for a tick
abbrev pub need : State → Event → List Change → ℕ
need old Tick changes = needed_by_tick old.functions (next_runnable old.functions old.last)
need old event changes = staged changes

-- Steps

-- The event leads from the old state to the new one, by these changes of the files, and comes to this outcome. A commit
-- comes before it exactly where the count of staged blocks and the need are above the slack. At which clock a commit
-- comes is given.
pub record Step (setting : Setting) (old : State) (event : Event) (changes : List Change) (outcome : Outcome)
    (new : State) : Type 0 where
  pub due : is_some outcome.before ≡ nat_lt setting.geometry.slack (old.count + need old event changes)
  pub does : Does setting (committed outcome.before old) event changes outcome new

-- one step, as it was taken
pub record StepTaken : Type 0 where
  pub old : State
  pub event : Event
  pub changes : List Change
  pub outcome : Outcome
  pub new : State

abbrev pub IsStep : Setting → StepTaken → Type 0
IsStep setting step = Step setting step.old step.event step.changes step.outcome step.new

-- one step after another, each from where the one before led
abbrev pub Run : Setting → State → List StepTaken → State → Type 0
Run setting old [] new = new ≡ old
Run setting old (step ∷ steps) new = (step.old ≡ old) × IsStep setting step × Run setting step.new steps new
