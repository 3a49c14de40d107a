-- A tick: the next function that is runnable is served one block of its first request, or waits. It is `Ticks`, at the
-- end: idle, or a turn that is taken (`TakesTurn`, `Serves`), and of that by its line `Flushes`, `EndsPast`,
-- `ServesBlock` or `FailsToRead`, or `WaitsForBlock`.
use Rattle.std.specs.Prelude.{◌≡◌, ◌⊎◌, ℕ, ◌+◌, ◌-◌, ◌<◌, ◌≤◌, nat_le, if◌then◌else◌, Bool, true}
use Rattle.std.specs.Prelude.{false, List, [], ◌∷◌, slice_index_or, slice_set, Option, Some, None}
use Rattle.nesc_base.specs.Block.{zero_block}
use Rattle.nesc_base.specs.declared.numbers.FnNo.{FnNo}
use Rattle.nesc_requests.specs.declared.request.End.{End}
use Rattle.nesc_requests.specs.declared.request.End.TheVariants as end
use Rattle.nesc_requests.specs.declared.request.Kind.{Kind}
use Rattle.nesc_requests.specs.declared.request.Kind.TheVariants.{Pruned, Unmapped}
use Rattle.nesc_requests.specs.declared.request.Miss.{Miss}
use Rattle.nesc_requests.specs.declared.request.Queued.{Queued}
use Rattle.nesc_requests.specs.declared.request.Reply.{Reply}
use Rattle.nesc_requests.specs.declared.request.Request.{Request}
use Rattle.nesc_requests.specs.declared.request.Request.TheVariants.{Read, Write, Flush}
use Rattle.nesc_base.specs.Files.{File, Files, file_at}
use Rattle.file_model.specs.Files.{Change, holds, put, read}
use Rattle.nesc_requests.specs.Requests.{first_of, block_count, is_flush, is_write}
use Rattle.plain_machine.specs.Functions.{Attached, Function, Becomes, next_runnable}
use Rattle.plain_machine.specs.State.{State}
use Rattle.plain_machine.specs.declared.outcome.Answer.{Answer}
use Rattle.plain_machine.specs.declared.outcome.Answer.TheVariants.{Flushed, Idle, Served, Missed}
use Rattle.plain_machine.specs.declared.outcome.How.{How}
use Rattle.plain_machine.specs.declared.outcome.How.TheVariants.{Hit, Walk, Hole, Range}
use Rattle.plain_machine.specs.declared.outcome.Outcome.{Outcome}

-- Turns

-- what a tick finds: the function that it takes, what that has, and its first request before the rest
pub record Turn : Type 0 where
  pub f : FnNo
  pub attached : Attached
  pub head : Queued
  pub rest : List Queued

pub record IsTurn (f : FnNo) (function : Function) (turn : Turn) : Type 0 where
  pub takes : turn.f ≡ f
  pub on : function.attached ≡ Some turn.attached
  pub queue : turn.attached.queue ≡ turn.head ∷ turn.rest

-- the block that it comes to
abbrev pub next_block : Turn → ℕ
next_block turn = first_of turn.head.request + turn.attached.done

-- Ends

abbrev pub reply_of : Turn → End → ℕ → Request → Reply
reply_of turn ending done request =
    record { f = turn.f; id = turn.head.id; end = ending; done = done; request = request }

-- the request has left the queue
abbrev pub ended : Turn → Attached
ended turn = record turn.attached { queue = turn.rest; done = 0 }

-- a block of the request was served, and it was the last
abbrev pub is_last : Turn → Bool
is_last turn = nat_le (block_count turn.head.request) (turn.attached.done + 1)

-- the request with one more block done, or ended after its last
abbrev pub served_of : Turn → Request → Attached
served_of turn request =
    if is_last turn then ended turn
    else record turn.attached {
      queue = (record turn.head { request = request }) ∷ turn.rest;
      done = turn.attached.done + 1;
    }

-- the reply, after the last block
abbrev pub replied_to : Turn → Request → Option Reply
replied_to turn request =
    if is_last turn then Some (reply_of turn end.Ok (turn.attached.done + 1) request)
    else None

-- What a turn comes to: the answer, the clock of the commit that it makes, the reply, what it changes, and what the
-- function has then. The file is the one that the function has.

-- the request is a flush: all files are kept, and it ends with the clock of that
pub record Flushes (turn : Turn) (after : Option ℕ) (reply : Option Reply) (changes : List Change)
    (later : Attached) : Type 0 where
  pub asked : is_flush turn.head.request ≡ true
  pub clock : ℕ
  pub commits : after ≡ Some clock
  pub unchanged : changes ≡ []
  pub replies : reply ≡ Some (reply_of turn (end.Flushed clock) 0 turn.head.request)
  pub result : later ≡ ended turn

-- at or past the length a request that has blocks ends
pub record EndsPast (file : File) (turn : Turn) (after : Option ℕ) (reply : Option Reply) (changes : List Change)
    (later : Attached) : Type 0 where
  pub for_blocks : is_flush turn.head.request ≡ false
  pub past : file.length ≤ next_block turn
  pub no_commit : after ≡ None
  pub unchanged : changes ≡ []
  pub replies : reply ≡ Some (reply_of turn end.Range turn.attached.done turn.head.request)
  pub result : later ≡ ended turn

-- Block v is reached so for a request of which so many blocks are done, and this is the request after it. A read gets
-- what stands there, zeros where nothing is held; a write goes to a block that is held.
abbrev pub Reaches : File → ℕ → ℕ → Request → How → Request → Type 0
Reaches file v done (Read at into) Hit after =
    (holds file v ≡ true) × (after ≡ Read at (slice_set into done (read file v)))
Reaches file v done (Read at into) (Walk fetched) after =
    (holds file v ≡ true) × (after ≡ Read at (slice_set into done (read file v)))
Reaches file v done (Read at into) (Hole fetched) after =
    (holds file v ≡ false) × (after ≡ Read at (slice_set into done zero_block))
Reaches file v done (Write at from) Hit after = (holds file v ≡ true) × (after ≡ Write at from)
Reaches file v done (Write at from) (Walk fetched) after = (holds file v ≡ true) × (after ≡ Write at from)
Reaches file v done request how after = ⊥

-- what serving block v of file n changes: a write puts it
abbrev pub served_changes : ℕ → ℕ → ℕ → Request → List Change
served_changes n v done (Read at into) = []
served_changes n v done (Write at from) = put n v (slice_index_or from done zero_block) ∷ []
served_changes n v done Flush = []

-- a block below the length is served, and with the last one the request ends
pub record ServesBlock (file : File) (turn : Turn) (how : How) (after : Option ℕ) (reply : Option Reply)
    (changes : List Change) (later : Attached) : Type 0 where
  pub below : next_block turn < file.length
  pub request : Request
  pub reaches : Reaches file (next_block turn) turn.attached.done turn.head.request how request
  pub no_commit : after ≡ None
  pub puts : changes ≡ served_changes turn.attached.file (next_block turn) turn.attached.done turn.head.request
  pub replies : reply ≡ replied_to turn request
  pub result : later ≡ served_of turn request

-- the block is reached where it stands on the disk
abbrev pub IsOnDisk : How → Type 0
IsOnDisk Hit = Unit {0}
IsOnDisk (Walk fetched) = Unit {0}
IsOnDisk how = ⊥

abbrev pub is_read : Request → Bool
is_read (Read v into) = true
is_read (Write v from) = false
is_read Flush = false

-- a block that is held could not be read, and the request ends with what was read before
pub record FailsToRead (file : File) (turn : Turn) (how : How) (after : Option ℕ) (reply : Option Reply)
    (changes : List Change) (later : Attached) : Type 0 where
  pub below : next_block turn < file.length
  pub held : holds file (next_block turn) ≡ true
  pub on_disk : IsOnDisk how
  pub read : is_read turn.head.request ≡ true
  pub no_commit : after ≡ None
  pub unchanged : changes ≡ []
  pub replies : reply ≡ Some (reply_of turn end.Media turn.attached.done turn.head.request)
  pub result : later ≡ ended turn

-- Why a request cannot go on at block v: the block lies in a part of the tree that does not stand; or the request is a
-- write, and the block is not held.
abbrev pub MayWait : File → ℕ → Request → Kind → Type 0
MayWait file v request Pruned = is_flush request ≡ false
MayWait file v request Unmapped = (is_write request ≡ true) × (holds file v ≡ false)

-- the request cannot go on at a block below the length, and the function waits
pub record WaitsForBlock (file : File) (turn : Turn) (miss : Miss) (after : Option ℕ) (reply : Option Reply)
    (changes : List Change) (later : Attached) : Type 0 where
  pub below : next_block turn < file.length
  pub why : MayWait file (next_block turn) turn.head.request miss.kind
  pub at : miss.v ≡ next_block turn
  pub as_many : miss.n ≡ block_count turn.head.request - turn.attached.done
  pub no_commit : after ≡ None
  pub unchanged : changes ≡ []
  pub silent : reply ≡ None
  pub result : later ≡ record turn.attached { waiting = Some miss }

abbrev pub TurnsTo : File → Turn → Answer → Option ℕ → Option Reply → List Change → Attached → Type 0
TurnsTo file turn (Flushed f) after reply changes later = (f ≡ turn.f) × Flushes turn after reply changes later
TurnsTo file turn (Served f v Range) after reply changes later =
    (f ≡ turn.f) × (v ≡ next_block turn) × EndsPast file turn after reply changes later
TurnsTo file turn (Served f v how) after reply changes later =
    (f ≡ turn.f) × (v ≡ next_block turn)
    × (ServesBlock file turn how after reply changes later ⊎ FailsToRead file turn how after reply changes later)
TurnsTo file turn (Missed f miss fetched) after reply changes later =
    (f ≡ turn.f) × WaitsForBlock file turn miss after reply changes later
TurnsTo file turn answer after reply changes later = ⊥

-- what a tick does for the function that it takes, over these files
pub record Serves (files : Files) (f : FnNo) (old : Function) (outcome : Outcome) (changes : List Change)
    (new : Function) : Type 0 where
  pub turn : Turn
  pub is : IsTurn f old turn
  pub later : Attached
  pub turns : TurnsTo (file_at files turn.attached.file) turn outcome.answer outcome.after outcome.reply changes later
  pub result : new ≡ record old { attached = Some later }

-- no function can be served
pub record IsIdle (old : State) (outcome : Outcome) (changes : List Change) (functions : List Function)
    (last : ℕ) : Type 0 where
  pub none : next_runnable old.functions old.last ≡ None
  pub idle : outcome.answer ≡ Idle
  pub no_commit : outcome.after ≡ None
  pub silent : outcome.reply ≡ None
  pub unchanged : changes ≡ []
  pub same : functions ≡ old.functions
  pub same_last : last ≡ old.last

-- the next function that is runnable is taken
pub record TakesTurn (old : State) (outcome : Outcome) (changes : List Change) (functions : List Function)
    (last : ℕ) : Type 0 where
  pub f : FnNo
  pub next : next_runnable old.functions old.last ≡ Some f.0
  pub serves : Becomes (λ before after. Serves old.now f before outcome changes after) f.0 old.functions functions
  pub last_is : last ≡ f.0

-- A tick takes as given how the device comes to a block, how many nodes of a tree it fetches for that, and whether the
-- disk can be read. What is said of the first two beside the machine stands in `Misses`.
abbrev pub Ticks : State → Outcome → List Change → List Function → ℕ → Type 0
Ticks old outcome changes functions last =
    IsIdle old outcome changes functions last ⊎ TakesTurn old outcome changes functions last
