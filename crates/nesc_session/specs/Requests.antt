-- The requests of one function, and the functions that they and the files of functions make.
use Rattle.std.specs.Prelude.{◌≡◌, ℕ, ◌+◌, ◌-◌, ◌<◌, ◌≤◌, not, ◌&&◌, is_none, Bool, true}
use Rattle.std.specs.Prelude.{false, List, [], ◌∷◌, length, Option, Some, None, ⊤}
use Rattle.std.specs.List.{AllByRecursion, position}
use Rattle.nesc_base.specs.declared.numbers.FileNo.{FileNo}
use Rattle.nesc_base.specs.Files.{longest_file}
use Rattle.nesc_requests.specs.Requests.{block_count, first_of, is_flush, is_write}
use Rattle.nesc_requests.specs.Script.{MayAsk}
use Rattle.nesc_requests.specs.declared.request.Kind.{Kind}
use Rattle.nesc_requests.specs.declared.request.Kind.TheVariants.{Pruned, Unmapped}
use Rattle.nesc_requests.specs.declared.request.Miss.{Miss}
use Rattle.nesc_requests.specs.declared.request.Queued.{Queued}
use Rattle.plain_machine.specs.Functions.{Function, is_empty}
use Rattle.request_queues.specs.Queue.{Queue, emptied, empty_queue}

-- the requests that wait for a function, and what the function is waiting for, if it is
pub record Requests : Type 0 where
  pub queue : Queue
  pub waiting : Option Miss

-- the function that has this file, or none, and these requests
abbrev pub function_of : Option FileNo → Requests → Function
function_of None requests = record { attached = None; next = requests.queue.next }
function_of (Some file) requests = record {
  attached = Some
      (record {
        file = file.0;
        queue = requests.queue.requests;
        done = requests.queue.done;
        waiting = requests.waiting;
      });
  next = requests.queue.next;
}

abbrev pub functions_of : List (Option FileNo) → List Requests → List Function
functions_of [] all = []
functions_of (file ∷ files) [] = []
functions_of (file ∷ files) (requests ∷ all) = function_of file requests ∷ functions_of files all

-- not all blocks of the first request are done, and none where it has none
abbrev pub IsUnderWay : ℕ → List Queued → Type 0
IsUnderWay done [] = done ≡ 0
IsUnderWay done (head ∷ rest) = done ≤ block_count head.request - 1

-- why a request may have to wait
abbrev pub MayWaitFor : List Queued → Kind → Type 0
MayWaitFor [] kind = ⊥
MayWaitFor (head ∷ rest) Pruned = is_flush head.request ≡ false
MayWaitFor (head ∷ rest) Unmapped = is_write head.request ≡ true

-- what the function waits for are the blocks of its first request that are not done, and the first of these is one that
-- a file may have
abbrev pub WaitsForHead : Option Miss → ℕ → List Queued → Type 0
WaitsForHead None done queue = ⊤
WaitsForHead (Some miss) done [] = ⊥
WaitsForHead (Some miss) done (head ∷ rest) =
    MayWaitFor (head ∷ rest) miss.kind × (miss.v ≡ first_of head.request + done)
    × (miss.n ≡ block_count head.request - done)
    × (miss.v < longest_file)

pub record IsSound (queue : Queue) (waiting : Option Miss) : Type 0 where
  pub fit : AllByRecursion (λ queued. MayAsk queued.request) queue.requests
  pub under_way : IsUnderWay queue.done queue.requests
  pub waits : WaitsForHead waiting queue.done queue.requests

-- so many requests may wait, and no more do
pub record HoldsUpTo (most : ℕ) (queue : Queue) : Type 0 where
  pub depth : queue.depth ≡ most
  pub within : length queue.requests ≤ most

-- a function without requests, at first
abbrev pub no_requests : ℕ → Requests
no_requests most = record { queue = empty_queue most; waiting = None }

-- no requests wait any more; the numbers go on
abbrev pub cleared : Requests → Requests
cleared requests = record { queue = emptied requests.queue; waiting = None }

-- where no request waits, nothing of one is done, and the function waits for nothing
abbrev pub IsClearWhereIdle : Requests → Type 0
IsClearWhereIdle requests = requests.queue.requests ≡ [] → requests ≡ cleared requests

-- the first of them is a flush
abbrev pub starts_with_flush : List Queued → Bool
starts_with_flush [] = false
starts_with_flush (head ∷ rest) = is_flush head.request

-- a request waits, and the function does not
abbrev pub is_ready_for : Requests → Bool
is_ready_for requests = not (is_empty requests.queue.requests) && is_none requests.waiting

-- at which index the first stands for which a request waits, and which does not
abbrev pub position_ready : List Requests → Option ℕ
position_ready = position is_ready_for
