-- The history of one function and one file: what a run did to them, and what it told of them. A name is looked up in
-- the files of the run to see which file it means; the machine of one file sees these events and nothing else.
use Rattle.std.specs.Prelude.{ℕ, ◌==◌, ◌&&◌, if◌then◌else◌, Bool, true, false, List}
use Rattle.std.specs.Prelude.{[], ◌∷◌, ◌++◌, length, filter, map, Option, Some, None}
use Rattle.std.specs.FinMap.{get}
use Rattle.std.specs.List.{flat_map, list_any}
use Rattle.std.specs.Option.{option_map_or}
use Rattle.std.specs.Str.{bytes_eq}
use Rattle.nesc_base.specs.declared.block.Block.{Block}
use Rattle.nesc_base.specs.declared.numbers.FnNo.{FnNo}
use Rattle.nesc_base.specs.Files.{File, Files, file_at}
use Rattle.nesc_requests.specs.Requests.{first_of}
use Rattle.nesc_requests.specs.declared.event.Event.{Event}
use Rattle.nesc_requests.specs.declared.event.Event.TheVariants.{Handle, Host, Restart, Submit, Tick}
use Rattle.nesc_requests.specs.declared.host.HostAnswer.TheVariants as said
use Rattle.nesc_requests.specs.declared.host.HostCommand.{HostCommand}
use Rattle.nesc_requests.specs.declared.host.HostCommand.TheVariants.{Attach, Create, Delete}
use Rattle.nesc_requests.specs.declared.host.HostCommand.TheVariants.{Detach, Get, Map, Put, Resize}
use Rattle.nesc_requests.specs.declared.request.Reply.{Reply}
use Rattle.nesc_requests.specs.declared.request.Request.{Request}
use Rattle.file_model.specs.Files.{Change, create, delete, hold, holding, put, puts_from, resize, unheld}
use Rattle.plain_machine.specs.Functions.{Function, attached_of, has_file}
use Rattle.plain_machine.specs.Given.{is_failed_read}
use Rattle.plain_machine.specs.Groups.{ReplyLine, reply_line_of}
use Rattle.plain_machine.specs.Machine.{StepTaken}
use Rattle.plain_machine.specs.State.{State}
use Rattle.plain_machine.specs.declared.outcome.Answer.{Answer}
use Rattle.plain_machine.specs.declared.outcome.Answer.TheVariants as happened
use Rattle.plain_machine.specs.declared.outcome.Handled.{Handled}
use Rattle.plain_machine.specs.declared.outcome.How.{How}
use Rattle.plain_machine.specs.declared.outcome.How.TheVariants.{Hit, Walk, Hole, Range}
use Rattle.plain_machine.specs.declared.outcome.Outcome.{Outcome}

-- Events

-- What happens to one function and one file. While the function has the file: a request of it is queued, a tick takes
-- it, with this main line and the clock of a flush, and a read of the disk that failed or did not; it is handled. The
-- host, or a function that has the file at the time and is another, changes the file; the host reads it. Everything is
-- kept, at some clock, or starts again.
pub data OwnEvent : Type 0 where
  changed : Change → OwnEvent
  got : (v n : ℕ) (failed : Bool) → OwnEvent
  attached : OwnEvent
  detached : OwnEvent
  asked : (id : ℕ) → Request → OwnEvent
  ticked : (line : Answer) (clock : Option ℕ) (failed : Bool) → OwnEvent
  handled : Handled → OwnEvent
  kept : OwnEvent
  restarted : OwnEvent

-- What is told: a reply to a request from block v on, and blocks that the host reads from block v on.
pub data OwnLine : Type 0 where
  replied : (v : ℕ) → ReplyLine → OwnLine
  data_from : (v : ℕ) → List Block → OwnLine

-- What a run did

-- the change is one of this file
abbrev pub is_of : ℕ → Change → Bool
is_of n (create m name length) = m == n
is_of n (delete m) = m == n
is_of n (resize m length) = m == n
is_of n (hold m blocks) = m == n
is_of n (put m v block) = m == n

abbrev pub changes_of : ℕ → List Change → List OwnEvent
changes_of n changes = map changed (filter (is_of n) changes)

-- the function has the file
abbrev pub has : List Function → ℕ → ℕ → Bool
has functions f n = has_file n (attached_of functions f)

-- the file of this number has this name
abbrev pub is_called : Files → ℕ → List ℕ → Bool
is_called files n name = option_map_or (λ file. bytes_eq file.name name) (get files n) false

-- the main line without the number of nodes that were fetched
abbrev pub how_bare : How → How
how_bare Hit = Hit
how_bare (Walk fetched) = Walk 0
how_bare (Hole fetched) = Hole 0
how_bare Range = Range

abbrev pub bare : Answer → Answer
bare (happened.Served f v how) = happened.Served f v (how_bare how)
bare (happened.Missed f miss fetched) = happened.Missed f miss 0
bare answer = answer

-- the function that a tick took
abbrev pub taken_by : Answer → Option FnNo
taken_by (happened.Served f v how) = Some f
taken_by (happened.Missed f miss fetched) = Some f
taken_by (happened.Flushed f) = Some f
taken_by answer = None

-- What is done for a function that has the file: this is told of it where it is this function, and of any other what it
-- changes of the file. What is done for one that does not have the file is not told, and changes nothing of it.
abbrev pub own_by : ℕ → ℕ → List Function → ℕ → List OwnEvent → List Change → List OwnEvent
own_by f n functions g told changes = if has functions g n then (if g == f then told else changes_of n changes) else []

-- of a tick that took this function, if it took one
abbrev pub own_of_turn : ℕ → ℕ → State → Option FnNo → Outcome → List Change → List OwnEvent
own_of_turn f n old None outcome changes = []
own_of_turn f n old (Some g) outcome changes =
    own_by f n old.functions g.0
    (ticked (bare outcome.answer) outcome.after (is_failed_read outcome.reply) ∷ []) changes

-- What a command that is done changes of this file n, whose name it names. Blocks that are not held are held before
-- they are put.
abbrev pub host_changes : ℕ → File → HostCommand → List Change
host_changes n file (Delete name) = delete n ∷ []
host_changes n file (Resize name len) = resize n len ∷ []
host_changes n file (Put name v blocks) = holding n (unheld file v (length blocks)) ++ puts_from n v blocks
host_changes n file (Map name v count) = holding n (unheld file v count)
host_changes n file command = []

-- nothing, unless the file has this name
abbrev pub if_called : Files → ℕ → List ℕ → List OwnEvent → List OwnEvent
if_called files n name events = if is_called files n name then events else []

-- what a command that is done and names this file changes of it, by the file as it was
abbrev pub own_of_change : ℕ → Files → List ℕ → HostCommand → List OwnEvent
own_of_change n files name command = if_called files n name (map changed (host_changes n (file_at files n) command))

-- Of a command of the host: what it changes of the file, that it reads it, and that it gives it to the function or
-- takes it. Of the machine's own list of changes only this is told, that the file made is the one of this number.
abbrev pub own_of_host : ℕ → ℕ → State → HostCommand → Answer → List Change → List OwnEvent
own_of_host f n old (Create name len) (happened.Host said.Ok) changes =
    if list_any (is_of n) changes then changed (create n name len) ∷ [] else []
own_of_host f n old (Delete name) (happened.Host said.Ok) changes = own_of_change n old.now name (Delete name)
own_of_host f n old (Resize name len) (happened.Host said.Ok) changes = own_of_change n old.now name (Resize name len)
own_of_host f n old (Put name v blocks) (happened.Host said.Ok) changes =
    own_of_change n old.now name (Put name v blocks)
own_of_host f n old (Map name v count) (happened.Host said.Ok) changes = own_of_change n old.now name (Map name v count)
own_of_host f n old (Get name v into) (happened.Host (said.Got blocks)) changes =
    if_called old.now n name (got v (length into) false ∷ [])
own_of_host f n old (Get name v into) (happened.Host said.Media) changes =
    if_called old.now n name (got v (length into) true ∷ [])
own_of_host f n old (Attach g name) (happened.Host said.Ok) changes =
    if g.0 == f then if_called old.now n name (attached ∷ []) else []
own_of_host f n old (Detach g) (happened.Host said.Ok) changes =
    if g.0 == f && has old.functions f n then detached ∷ [] else []
own_of_host f n old command answer changes = []

-- a request that was queued, under its number
abbrev pub own_of_queued : Request → Answer → List OwnEvent
own_of_queued request (happened.Queued id) = asked id request ∷ []
own_of_queued request answer = []

-- what the handling came to
abbrev pub own_of_handled : Answer → List OwnEvent
own_of_handled (happened.Handled f did) = handled did ∷ []
own_of_handled answer = []

-- Of one event. What the function itself does to the file is not told: it follows from what it asked for.
abbrev pub own_of_event : ℕ → ℕ → State → Event → Outcome → List Change → List OwnEvent
own_of_event f n old (Submit g request) outcome changes =
    if g.0 == f && has old.functions f n then own_of_queued request outcome.answer else []
own_of_event f n old Tick outcome changes = own_of_turn f n old (taken_by outcome.answer) outcome changes
own_of_event f n old (Host command) outcome changes = own_of_host f n old command outcome.answer changes
own_of_event f n old (Handle g) outcome changes = own_by f n old.functions g.0 (own_of_handled outcome.answer) changes
own_of_event f n old Restart outcome changes = restarted ∷ []
own_of_event f n old event outcome changes = []

-- each commit
abbrev pub own_of_commit : Option ℕ → List OwnEvent
own_of_commit None = []
own_of_commit (Some clock) = kept ∷ []

-- of one step, and of all steps of a run in their order
abbrev pub own_of : ℕ → ℕ → StepTaken → List OwnEvent
own_of f n step = own_of_commit step.outcome.before ++ own_of_event f n step.old step.event step.outcome step.changes
    ++ own_of_commit step.outcome.after

abbrev pub own_in : ℕ → ℕ → List StepTaken → List OwnEvent
own_in f n = flat_map (own_of f n)

-- What a run told

-- the reply to the function, where it has the file
abbrev pub replies_of : ℕ → ℕ → State → Option Reply → List OwnLine
replies_of f n old None = []
replies_of f n old (Some reply) =
    if reply.f.0 == f && has old.functions f n then replied (first_of reply.request) (reply_line_of reply) ∷ [] else []

-- the blocks that the host reads of the file
abbrev pub data_of : ℕ → State → Event → Answer → List OwnLine
data_of n old (Host (Get name v into)) (happened.Host (said.Got blocks)) =
    if is_called old.now n name then data_from v blocks ∷ [] else []
data_of n old event answer = []

abbrev pub lines_of : ℕ → ℕ → StepTaken → List OwnLine
lines_of f n step = data_of n step.old step.event step.outcome.answer ++ replies_of f n step.old step.outcome.reply

abbrev pub lines_in : ℕ → ℕ → List StepTaken → List OwnLine
lines_in f n = flat_map (lines_of f n)
