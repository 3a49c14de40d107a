-- What a step of the session is: a step of the plain machine, whatever state the session is in, and what a stop in it
-- leaves.
use Rattle.std.specs.Prelude.{◌≡◌, ◌⊎◌, ℕ, ◌||◌, true, false, List, Option, Some, None, Result, Ok, IfOk, is_some}
use Rattle.nesc_base.specs.declared.block.Block.{Block}
use Rattle.nesc_base.specs.declared.geometry.Geometry.{Geometry}
use Rattle.nesc_base.specs.declared.numbers.FileNo.{FileNo}
use Rattle.nesc_base.specs.Disk.{Goes, Known, Unchanged}
use Rattle.nesc_base.specs.Files.{Files}
use Rattle.nesc_base.specs.Places.{Places}
use Rattle.nesc_requests.specs.Script.{IsWithinLimits, MayAsk, numbered}
use Rattle.nesc_requests.specs.declared.event.Event.{Event}
use Rattle.nesc_requests.specs.declared.event.Event.TheVariants.{Handle, Host, Restart, Submit, Tick}
use Rattle.nesc_requests.specs.declared.host.HostCommand.TheVariants.{Sync}
use Rattle.file_model.specs.Files.{Change}
use Rattle.host_journal.specs.Committing.{Commits}
use Rattle.host_journal.specs.Journal.{Journal, started_anew}
use Rattle.host_journal.specs.Kept.{Leaves}
use Rattle.host_journal.specs.declared.journal.StartFault.{StartFault}
use Rattle.host_journal.specs.declared.journal.StartFault.TheVariants as start
use Rattle.hypervisor.specs.Attachments.{file_of}
use Rattle.hypervisor.specs.Needing.{HasRoom, HasRoomToDo}
use Rattle.image_layout.specs.declared.fault.ImageFault.TheVariants.{BadList}
use Rattle.image_layout.specs.declared.fault.OpenFault.{OpenFault}
use Rattle.image_layout.specs.declared.fault.OpenFault.TheVariants as opening
use Rattle.image_layout.specs.Opens.{Opens}
use Rattle.plain_machine.specs.Functions.{next_runnable}
use Rattle.plain_machine.specs.Given.{is_failed_get, is_failed_read, leaf_of, walked, way_of}
use Rattle.plain_machine.specs.Machine.{Does, Step, needed_by_tick}
use Rattle.plain_machine.specs.Misses.{HasNoTrees}
use Rattle.plain_machine.specs.Placing.{Placed, PlacesAfter, PlacesStep, placed_by}
use Rattle.plain_machine.specs.State.{State, committed}
use Rattle.plain_machine.specs.declared.outcome.Answer.{Answer}
use Rattle.plain_machine.specs.declared.outcome.Outcome.{Outcome}
use Rattle.plain_machine.specs.declared.setting.Setting.{Setting}
use Rattle.nesc_session.specs.Requests.{Requests, starts_with_flush}
use Rattle.nesc_session.specs.Resting.{IsIn, Stands, functions_in}
use Rattle.nesc_session.specs.Serving.{HasRoomToHold}
use Rattle.nesc_session.specs.declared.fault.StepFault.{StepFault}
use Rattle.nesc_session.specs.declared.fault.StepFault.TheVariants as fault
use Rattle.nesc_session.specs.declared.session.Session.{Session}

-- what hosts and guests ask for is within the limits
abbrev pub MayStep : Event → Type 0
MayStep (Submit f request) = MayAsk request
MayStep (Host command) = IsWithinLimits command
MayStep event = Unit {0}

-- The step that was taken: of the plain machine, with no trees, and of the places; and where the session is after it,
-- over a disk that has kept these blocks now.
pub record StepsTo (old : Session) (state : State) (placed : Placed) (event : Event) (outcome : Outcome) (new : Session)
    (disk : Known) : Type 0 where
  pub changes : List Change
  pub next : State
  pub moved : Placed
  pub later : List Block
  pub step : Step old.setting state event changes outcome next
  pub places : PlacesStep old.setting.geometry placed event changes outcome moved
  pub no_trees : HasNoTrees outcome
  pub is_in : IsIn new disk later next moved

-- so it is whatever state the session is in, over a disk that tells
abbrev pub Steps : {F : Type 0} → Session → Known → Event → Result Outcome F → Session → Known → Type 0
Steps old before event result new after =
    before.tells ≡ true → (kept : List Block) (state : State) (placed : Placed) → IsIn old before kept state placed
    → IfOk result (λ outcome. StepsTo old state placed event outcome new after)

-- what an event does behind the commit that came before the step, if one came
pub record DoesTo (old : Session) (state : State) (placed : Placed) (event : Event) (outcome : Outcome) (new : Session)
    (disk : Known) : Type 0 where
  pub changes : List Change
  pub next : State
  pub moved : Placed
  pub later : List Block
  pub does : Does old.setting state event changes outcome next
  pub places : PlacesAfter old.setting.geometry placed event changes outcome.after moved
  pub no_trees : HasNoTrees outcome
  pub is_in : IsIn new disk later next moved

abbrev pub DoesOnDisk : {F : Type 0} → Session → Known → Event → Result Outcome F → Session → Known → Type 0
DoesOnDisk old before event result new after =
    before.tells ≡ true → (kept : List Block) (state : State) (placed : Placed) → IsIn old before kept state placed
    → IfOk result (λ outcome. DoesTo old state placed event outcome new after)

-- Commits

-- the image opens as these files
abbrev pub OpensAs : Geometry → Files → List Block → Type 0
OpensAs geometry files image = (places : Places) × Opens image geometry files places

-- a commit came before the step, this is the disk's clock after it, and nothing has changed on the disk since
pub record HasClock {D : Type 0} (known : D → Known) (old : Session) (before : D) (clock : ℕ) (after : D) : Type 0 where
  pub middle : D
  pub commits : Commits old.journal.geometry old.journal.staged (known before) (known middle) (Ok clock)
  pub at : clock ≡ (known middle).clock
  pub goes : Goes (known middle) (known after)
  pub still : Unchanged (known middle) (known after)

-- the clocks that the outcome tells are those of the disk
pub record HasClocks {D : Type 0} (known : D → Known) (old : Session) (before : D) (outcome : Outcome)
    (after : D) : Type 0 where
  pub first : (clock : ℕ) → outcome.before ≡ Some clock → HasClock known old before clock after
  pub last : (clock : ℕ) → outcome.after ≡ Some clock → clock ≡ (known after).clock

-- the disk could not be read for a guest or for the host
abbrev pub TellsMedia : Outcome → Type 0
TellsMedia outcome = is_failed_get outcome.answer || is_failed_read outcome.reply ≡ true

-- Each image that a stop has left since, and each that it could leave now, opens as the files that were kept; or, where
-- P, as those that there were.
abbrev pub LeavesBy : Type 0 → Session → Known → Known → Type 0
LeavesBy P old before after =
    before.tells ≡ true → (kept : List Block) (state : State) (placed : Placed) → IsIn old before kept state placed
    → Leaves (λ image. OpensAs old.setting.geometry state.kept image
    ⊎ (P × OpensAs old.setting.geometry state.now image)) before after

abbrev pub LeavesBoth : Session → Known → Known → Type 0
LeavesBoth = LeavesBy (Unit {0})

abbrev pub LeavesOld : Session → Known → Known → Type 0
LeavesOld = LeavesBy ⊥

-- a commit leaves the session in the state in which the files are kept
abbrev pub KeepsFiles : Session → Known → ℕ → Session → Known → Type 0
KeepsFiles old before clock new after =
    before.tells ≡ true → (kept : List Block) (state : State) (placed : Placed) → IsIn old before kept state placed
    → (later : List Block) × IsIn new after later (committed (Some clock) state) (placed_by (Some clock) placed)

-- and so does one that comes, or does not
abbrev pub MakesRoom : Session → Known → Option ℕ → Session → Known → Type 0
MakesRoom old before clock new after =
    before.tells ≡ true → (kept : List Block) (state : State) (placed : Placed) → IsIn old before kept state placed
    → (later : List Block) × IsIn new after later (committed clock state) (placed_by clock placed)

abbrev pub made_room : Option ℕ → Session → Session
made_room None session = session
made_room (Some clock) session = record session { journal = started_anew session.journal }

-- the first request of the function of a number is a flush
abbrev pub FlushesFirst : Session → ℕ → Type 0
FlushesFirst session f = (requests : Requests) → numbered session.requests.items f ≡ Some requests
    → starts_with_flush requests.queue.requests ≡ true

-- the event keeps all files: a `sync`, or a tick whose next function has a flush first
abbrev pub KeepsFor : Session → Event → Type 0
KeepsFor session (Host Sync) = Unit {0}
KeepsFor session Tick = (f : ℕ) × (next_runnable (functions_in session) session.last ≡ Some f) × FlushesFirst session f
KeepsFor session event = ⊥

-- there is room in the journal for what an event stages
abbrev pub HasRoomFor : Session → Event → Journal → Type 0
HasRoomFor session Tick journal =
    HasRoom journal (needed_by_tick (functions_in session) (next_runnable (functions_in session) session.last))
HasRoomFor session (Host command) journal = HasRoomToDo session.files command journal
HasRoomFor session (Handle f) journal =
    (file : FileNo) (requests : Requests) → file_of session.attachments f.0 ≡ Some file
    → numbered session.requests.items f.0 ≡ Some requests
    → HasRoomToHold session.files file.0 requests.waiting journal
HasRoomFor session event journal = Unit {0}

-- The step for an event makes a commit: before it, since the journal has no room for what it stages, or in it.
abbrev pub CommitsFor : Session → Event → Type 0
CommitsFor session event = (HasRoomFor session event session.journal → ⊥) ⊎ KeepsFor session event

-- each step of the plain machine for the event makes a commit, or is a restart
abbrev pub AsksForCommit : Setting → State → Event → Type 0
AsksForCommit setting state Restart = Unit {0}
AsksForCommit setting state event =
    (changes : List Change) (outcome : Outcome) (next : State) → Step setting state event changes outcome next
    → is_some outcome.before || is_some outcome.after ≡ true

-- so it is whatever state the session is in, over a disk that tells
abbrev pub AsksOnDisk : Session → Known → Event → Type 0
AsksOnDisk session disk event =
    disk.tells ≡ true → (kept : List Block) (state : State) (placed : Placed) → IsIn session disk kept state placed
    → AsksForCommit session.setting state event

-- what an event does that needs no disk
pub record DoesOver (old : Session) (kept : List Block) (state : State) (placed : Placed) (event : Event)
    (outcome : Outcome) (new : Session) : Type 0 where
  pub changes : List Change
  pub next : State
  pub moved : Placed
  pub does : Does old.setting state event changes outcome next
  pub places : PlacesAfter old.setting.geometry placed event changes outcome.after moved
  pub stands : Stands new kept next moved

abbrev pub DoesInMemory : Session → Event → Outcome → Session → Type 0
DoesInMemory old event outcome new =
    (kept : List Block) (state : State) (placed : Placed) → Stands old kept state placed
    → DoesOver old kept state placed event outcome new

-- an event with this answer alone
abbrev pub DoesAnswer : Session → Known → Event → Answer → Session → Known → Type 0
DoesAnswer old before event answer new after =
    before.tells ≡ true → (kept : List Block) (state : State) (placed : Placed) → IsIn old before kept state placed
    → DoesTo old state placed event
    (record { before = None; answer = answer; drops = 0; built = None; after = None; reply = None }) new after

-- an answer that tells of no tree and of no failed read
pub record IsQuiet (answer : Answer) : Type 0 where
  pub walks : way_of answer ≡ walked 0
  pub no_leaf : leaf_of answer ≡ None
  pub read : is_failed_get answer ≡ false

-- nothing but functions changes
pub record KeepsFilesAsTheyAre (old new : Session) : Type 0 where
  pub same_setting : new.setting ≡ old.setting
  pub same_files : new.files ≡ old.files
  pub same_journal : new.journal ≡ old.journal

-- why the machine could not be started again
abbrev pub step_fault_of_start : StartFault → StepFault
step_fault_of_start (start.Disk disk) = fault.Disk disk
step_fault_of_start (start.BadList block) = fault.Image (BadList block)

-- a loading never wants memory
abbrev pub step_fault_of_load : OpenFault → StepFault
step_fault_of_load opening.NoMemory = fault.Disk (record {})
step_fault_of_load (opening.Disk disk) = fault.Disk disk
step_fault_of_load (opening.Image image) = fault.Image image
