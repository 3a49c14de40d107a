-- What a submission is answered: it tells of no tree, and of no read; and a request that comes back is the one that was handed in.
use Rattle.std.proofs.Common.{◌≡◌, ℕ, ◌<◌, ◌≤◌, length, Some, refl, ap, sym}
use Rattle.nesc_base.specs.declared.numbers.FileNo.{FileNo}
use Rattle.nesc_base.specs.declared.numbers.FnNo.{FnNo}
use Rattle.nesc_requests.specs.declared.event.Event.TheVariants.{Submit}
use Rattle.nesc_requests.specs.declared.request.Request.{Request}
use Rattle.request_queues.specs.Queue.{with_request}
use Rattle.plain_machine.specs.Functions.{Function}
use Rattle.plain_machine.specs.Submissions.{Submits}
use Rattle.plain_machine.specs.declared.outcome.Answer.{Answer}
use Rattle.plain_machine.specs.declared.outcome.Answer.TheVariants as answer
use Rattle.nesc_session.specs.Buffers.{HandsBack}
use Rattle.nesc_session.specs.Requests.{Requests, function_of}
use Rattle.nesc_session.specs.Stepping.{IsQuiet}

-- the request waits, where fewer than may wait did
pub submits_queued : (old new : Requests) (file : FileNo) (request : Request) (id : ℕ) → length old.queue.requests < old.queue.depth → id ≡ old.queue.next
    → new.queue ≡ with_request old.queue request → new.waiting ≡ old.waiting → Submits old.queue.depth (function_of (Some file) old) request (answer.Queued id) (function_of (Some file) new)
submits_queued old new file request id room id_is new_is waits = record {
  attached = record { file = file.0; queue = old.queue.requests; done = old.queue.done; waiting = old.waiting };
  on = refl;
  room = room;
  id_is = id_is;
  result = λ i. record { attached = Some (record { file = file.0; queue = (new_is i).requests; done = (new_is i).done; waiting = waits i }); next = (new_is i).next };
}

-- or comes back, where as many did
pub submits_full : (old new : Requests) (file : FileNo) (request back : Request) → old.queue.depth ≤ length old.queue.requests → back ≡ request → new.queue ≡ old.queue
    → new.waiting ≡ old.waiting → Submits old.queue.depth (function_of (Some file) old) request (answer.Full back) (function_of (Some file) new)
submits_full old new file request back full same new_is waits = (
  record { attached = record { file = file.0; queue = old.queue.requests; done = old.queue.done; waiting = old.waiting }; on = refl; full = full },
  same,
  λ i. record { attached = Some (record { file = file.0; queue = (new_is i).requests; done = (new_is i).done; waiting = waits i }); next = (new_is i).next },
)

pub submits_quiet : (most : ℕ) (function : Function) (request : Request) (said : Answer) (new : Function) → Submits most function request said new → IsQuiet said
submits_quiet most function request (answer.Queued id) new submits = record { walks = refl; no_leaf = refl; read = refl }
submits_quiet most function request (answer.Full back) new submits = record { walks = refl; no_leaf = refl; read = refl }
submits_quiet most function request (answer.Off back) new submits = record { walks = refl; no_leaf = refl; read = refl }
submits_quiet most function request other new submits = absurd submits

pub hands_back : (f : FnNo) (request : Request) (said : Answer) (most : ℕ) (function new : Function) → Submits most function request said new → HandsBack (Submit f request) said
hands_back f request (answer.Queued id) most function new submits = tt
hands_back f request (answer.Full back) most function new submits = (f, ap (Submit f) (sym submits.1))
hands_back f request (answer.Off back) most function new submits = (f, ap (Submit f) (sym submits.1))
hands_back f request other most function new submits = absurd submits
