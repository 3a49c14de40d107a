-- How many buffers of blocks are in the session, and how many come back with an outcome.
use Rattle.std.specs.Prelude.{◌≡◌, ℕ, ◌+◌, List}
use Rattle.std.specs.List.{sum_by}
use Rattle.nesc_base.specs.declared.numbers.FnNo.{FnNo}
use Rattle.nesc_requests.specs.Buffers.{Spare, answer_buffers, reply_buffers, request_buffers}
use Rattle.nesc_requests.specs.declared.event.Event.{Event}
use Rattle.nesc_requests.specs.declared.event.Event.TheVariants.{Submit}
use Rattle.nesc_requests.specs.declared.request.Queued.{Queued}
use Rattle.plain_machine.specs.declared.outcome.Answer.{Answer}
use Rattle.plain_machine.specs.declared.outcome.Answer.TheVariants.{Full, Host, Off}
use Rattle.plain_machine.specs.declared.outcome.Outcome.{Outcome}
use Rattle.nesc_session.specs.Requests.{Requests}
use Rattle.nesc_session.specs.declared.session.Session.{Session}

-- those of requests that wait

abbrev pub queue_buffers : List Queued → ℕ
queue_buffers = sum_by (λ queued. request_buffers queued.request)

abbrev pub waiting_buffers : List Requests → ℕ
waiting_buffers = sum_by (λ requests. queue_buffers requests.queue.requests)

-- and those that are spare
abbrev pub buffers_in : Session → Spare → ℕ
buffers_in session spare = waiting_buffers session.requests.items + spare.count

-- with a request that is handed back at once, or with blocks that the host gets
abbrev pub returned : Answer → ℕ
returned (Full request) = request_buffers request
returned (Off request) = request_buffers request
returned (Host said) = answer_buffers said
returned answer = 0

abbrev pub outcome_buffers : Outcome → ℕ
outcome_buffers outcome = returned outcome.answer + reply_buffers outcome.reply

-- no request is handed back at once
abbrev pub HasNoRequest : Answer → Type 0
HasNoRequest (Full request) = ⊥
HasNoRequest (Off request) = ⊥
HasNoRequest answer = Unit {0}

-- a request that is handed back at once is the one that the event brought
abbrev pub HandsBack : Event → Answer → Type 0
HandsBack event (Full request) = (f : FnNo) × (event ≡ Submit f request)
HandsBack event (Off request) = (f : FnNo) × (event ≡ Submit f request)
HandsBack event answer = Unit {0}
