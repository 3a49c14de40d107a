-- What serving and handling a function do, over whatever files the blocks show.
use Rattle.std.specs.Prelude.{◌≡◌, ℕ, min, true, false, List, [], ◌∷◌, length, Option, Some, None}
use Rattle.nesc_base.specs.declared.block.Block.{Block}
use Rattle.nesc_base.specs.declared.numbers.FileNo.{FileNo}
use Rattle.nesc_base.specs.declared.numbers.FnNo.{FnNo}
use Rattle.nesc_base.specs.Disk.{Known}
use Rattle.nesc_base.specs.Files.{Files, file_at}
use Rattle.nesc_base.specs.Places.{Places}
use Rattle.block_map.specs.Map.{count_free}
use Rattle.file_layer.specs.Layer.{Layer, entry_of, lacking_below}
use Rattle.file_layer.specs.Showing.{Shows}
use Rattle.file_model.specs.Files.{Change, free, holds}
use Rattle.host_journal.specs.Journal.{Journal}
use Rattle.host_journal.specs.Kept.{IsKept}
use Rattle.hypervisor.specs.Carrying.{Carries}
use Rattle.hypervisor.specs.Needing.{HasRoom}
use Rattle.image_layout.specs.declared.table.TableEntry.{TableEntry}
use Rattle.plain_machine.specs.Handlings.{FindsSpace, Handles}
use Rattle.nesc_requests.specs.Buffers.{request_buffers}
use Rattle.nesc_requests.specs.Requests.{block_count, is_write}
use Rattle.nesc_requests.specs.Script.{MayAsk}
use Rattle.nesc_requests.specs.declared.request.End.{End}
use Rattle.nesc_requests.specs.declared.request.End.TheVariants as end
use Rattle.nesc_requests.specs.declared.request.Kind.{Kind}
use Rattle.nesc_requests.specs.declared.request.Kind.TheVariants.{Pruned, Unmapped}
use Rattle.nesc_requests.specs.declared.request.Miss.{Miss}
use Rattle.nesc_requests.specs.declared.request.Queued.{Queued}
use Rattle.nesc_requests.specs.declared.request.Reply.{Reply}
use Rattle.nesc_requests.specs.declared.request.Request.{Request}
use Rattle.request_queues.specs.Queue.{Queue, without_first}
use Rattle.plain_machine.specs.Given.{walked, way_by}
use Rattle.plain_machine.specs.Ticks.{Reaches, Serves, is_read, served_changes}
use Rattle.nesc_session.specs.declared.serving.Reached.{Reached}
use Rattle.nesc_session.specs.declared.serving.Reached.TheVariants as reached
use Rattle.plain_machine.specs.declared.outcome.Answer.{Answer}
use Rattle.plain_machine.specs.declared.outcome.Answer.TheVariants.{Handled}
use Rattle.plain_machine.specs.declared.outcome.Handled.TheVariants.{NoSpace}
use Rattle.plain_machine.specs.declared.outcome.Outcome.{Outcome}
use Rattle.nesc_session.specs.Requests.{Requests, function_of}

-- the function that has this file and these requests is served so, and the files change
pub record ServesOver (files : Layer) (before : Journal) (kept : List Block) (set : Files) (places : Places)
    (f : FnNo) (file : FileNo)
    (old : Requests) (outcome : Outcome) (new : Requests) (after : Journal) : Type 0 where
  pub changes : List Change
  pub serves : Serves set f (function_of (Some file) old) outcome changes (function_of (Some file) new)
  pub carries : Carries files before kept set places changes files after

-- so it is for whatever files the blocks of a disk that tells show
abbrev pub ServesOnDisk : Known → Layer → Journal → FnNo → FileNo → Requests → Outcome → Requests → Journal → Type 0
ServesOnDisk disk files before f file old outcome new after =
    disk.tells ≡ true → (kept : List Block) (set : Files) (places : Places) → IsKept before.geometry disk kept
    → Shows files before.staged kept set places
    → ServesOver files before kept set places f file old outcome new after

-- Block v of file n is reached so, for a request of which so many blocks are done, and this is the request after it; or
-- it is a write, and the block is not held; or a read of a held block failed. Nothing but what was reached changes.
abbrev pub ReachesBlock : Files → ℕ → ℕ → ℕ → Request → Reached → Request → List Change → Type 0
ReachesBlock set n v done request (reached.Served how) after changes =
    Reaches (file_at set n) v done request how after × (changes ≡ served_changes n v done request)
ReachesBlock set n v done request reached.Missed after changes =
    (is_write request ≡ true) × (holds (file_at set n) v ≡ false) × (after ≡ request) × (changes ≡ [])
ReachesBlock set n v done request reached.Failed after changes =
    (is_read request ≡ true) × (holds (file_at set n) v ≡ true) × (after ≡ request) × (changes ≡ [])

-- so it is for whatever files the blocks of a disk that tells show
abbrev pub ReachesOnDisk : Known → Layer → Journal → ℕ → ℕ → ℕ → Request → Reached → Request → Journal → Type 0
ReachesOnDisk disk files before n v done request reached later after =
    disk.tells ≡ true → (kept : List Block) (set : Files) (places : Places) → IsKept before.geometry disk kept
    → Shows files before.staged kept set places
    → (changes : List Change) × ReachesBlock set n v done request reached later changes
    × Carries files before kept set places changes files after

-- no node of a tree was fetched, and the cache was not asked
abbrev pub FetchesNone : Reached → Type 0
FetchesNone (reached.Served how) = way_by how ≡ walked 0
FetchesNone other = Unit {0}

-- the function that has this file and these requests is handled so, and the files change
pub record HandlesOver (old : Layer) (before : Journal) (kept : List Block) (set : Files) (places : Places)
    (f : FnNo) (file : FileNo)
    (waited : Requests) (outcome : Outcome) (ready : Requests) (new : Layer) (after : Journal) : Type 0 where
  pub changes : List Change
  pub handles : Handles set f (function_of (Some file) waited) outcome changes (function_of (Some file) ready)
  pub finds : FindsSpace (free old.geometry.blocks set) set (function_of (Some file) waited) outcome.answer
  pub carries : Carries old before kept set places changes new after

-- so it is for whatever files the blocks show
abbrev pub HandlesForAll : Layer → Journal → FnNo → FileNo → Requests → Outcome → Requests → Layer → Journal → Type 0
HandlesForAll old before f file waited outcome ready new after =
    (kept : List Block) (set : Files) (places : Places) → Shows old before.staged kept set places
    → HandlesOver old before kept set places f file waited outcome ready new after

-- no commit came before the step, nor in it, and no tree is named
pub record IsPlain (outcome : Outcome) : Type 0 where
  pub before : outcome.before ≡ None
  pub after : outcome.after ≡ None
  pub drops : outcome.drops ≡ 0
  pub built : outcome.built ≡ None

-- there is room in the journal for the data blocks that a handling will hold of a file
abbrev pub HasRoomForMiss : Layer → ℕ → Miss → Kind → Journal → Type 0
HasRoomForMiss files n miss Pruned journal = Unit {0}
HasRoomForMiss files n miss Unmapped journal =
    (entry : TableEntry) → entry_of files n ≡ Some entry
    → HasRoom journal (min (length (lacking_below files n entry.length miss.v miss.n)) (count_free files.map.owners))

abbrev pub HasRoomToHold : Layer → ℕ → Option Miss → Journal → Type 0
HasRoomToHold files n None journal = Unit {0}
HasRoomToHold files n (Some miss) journal = HasRoomForMiss files n miss miss.kind journal

-- what a guest is told where the first request of its function ends so
abbrev pub reply_to_first : FnNo → End → List Queued → ℕ → Option Reply
reply_to_first f ending [] done = None
reply_to_first f ending (head ∷ rest) done =
    Some (record { f = f; id = head.id; end = ending; done = done; request = head.request })

-- the first request of the queue ends so, and leaves it
pub record Ends (f : FnNo) (answer : Answer) (ending : End) (old : Queue) (outcome : Outcome)
    (new : Queue) : Type 0 where
  pub told : outcome ≡ record {
    before = None;
    answer = answer;
    drops = 0;
    built = None;
    after = None;
    reply = reply_to_first f ending old.requests old.done;
  }
  pub rest : new ≡ without_first old

-- The first request of the queue is reached so over a disk, at block v of file n: what it is then. The others stay.
pub record ReachesHead (disk : Known) (files : Layer) (before : Journal) (n v : ℕ) (old : Queue)
    (head : Queued) (rest : List Queued)
    (way : Reached) (new : Queue) (after : Journal) : Type 0 where
  pub later : Request
  pub queue : new ≡ record old { requests = (record head { request = later }) ∷ rest }
  pub reaches : ReachesOnDisk disk files before n v old.done head.request way later after
  pub may : MayAsk head.request → MayAsk later
  pub same_count : block_count later ≡ block_count head.request
  pub same_buffers : request_buffers later ≡ request_buffers head.request
  pub missed : way ≡ reached.Missed → (is_write head.request ≡ true) × (later ≡ head.request)

-- the first request ended where it was, and its function waits no more
pub record EndsWithNoSpace (f : FnNo) (old : Requests) (outcome : Outcome) (new : Requests) : Type 0 where
  pub head : Queued
  pub rest : List Queued
  pub queue : old.queue.requests ≡ head ∷ rest
  pub ready : new ≡ record { queue = record old.queue { requests = rest; done = 0 }; waiting = None }
  pub told : outcome ≡ record {
    before = None;
    answer = Handled f NoSpace;
    drops = 0;
    built = None;
    after = None;
    reply = Some (record { f = f; id = head.id; end = end.NoSpace; done = old.queue.done; request = head.request });
  }
