-- A guest hands a request to its function.
use Rattle.std.specs.Prelude.{◌≡◌, ℕ, ◌<◌, ◌≤◌, [], ◌∷◌, ◌++◌, length, Some, None}
use Rattle.nesc_base.specs.Count.{risen}
use Rattle.nesc_requests.specs.declared.request.Request.{Request}
use Rattle.plain_machine.specs.Functions.{Attached, Function}
use Rattle.plain_machine.specs.declared.outcome.Answer.{Answer}
use Rattle.plain_machine.specs.declared.outcome.Answer.TheVariants as answer

-- what a function has, with one request more, under this number
abbrev pub with_request : Attached → ℕ → Request → Attached
with_request attached id request =
    record attached { queue = attached.queue ++ (record { id = id; request = request }) ∷ [] }

-- the function with one request more
abbrev pub queueing : Function → Attached → Request → Function
queueing function attached request =
    record { attached = Some (with_request attached function.next request); next = risen function.next }

-- the request waits for its function, for which fewer than so many wait
pub record Queues (most : ℕ) (old : Function) (request : Request) (id : ℕ) (new : Function) : Type 0 where
  pub attached : Attached
  pub on : old.attached ≡ Some attached
  pub room : length attached.queue < most
  pub id_is : id ≡ old.next
  pub result : new ≡ queueing old attached request

-- so many requests wait for the function
pub record IsQueueFull (most : ℕ) (old : Function) : Type 0 where
  pub attached : Attached
  pub on : old.attached ≡ Some attached
  pub full : most ≤ length attached.queue

-- What comes of the request, where so many may wait. The first of off, full and the number that applies is the answer;
-- off and full hand the request back.
abbrev pub Submits : ℕ → Function → Request → Answer → Function → Type 0
Submits most old request (answer.Off back) new = (old.attached ≡ None) × (back ≡ request) × (new ≡ old)
Submits most old request (answer.Full back) new = IsQueueFull most old × (back ≡ request) × (new ≡ old)
Submits most old request (answer.Queued id) new = Queues most old request id new
Submits most old request other new = ⊥
