use Rattle.std.proofs.Common.{◌<◌, length, Some, inl, inr, refl, sym, subst}
use Rattle.std.specs.Prelude.{IsErr}
use Rattle.std.proofs.lemmas.Bool.{cases_lt, false≢true}
use Rattle.plain_machine.specs.Submissions.{Submits}
use Rattle.request_queues.specs.Queue.{Queue}
use Rattle.nesc_session.specs.Requests.{Requests, function_of}
use Rattle.nesc_session.proofs.Submitted.{submits_full, submits_queued}
use Rattle.nesc_session.proofs.requests.Requests.submit.Goals.{in-Err, in-Ok}
use Rattle.nesc_session.proofs.requests.Requests.submit.Goals as goal

pub returns-clause-submits : goal.returns-clause-submits
returns-clause-submits c file =
    let queue : Queue = c.self.inside.queue in
    let old : Requests = record { queue = queue; waiting = c.self.inside.waiting } in
    let new : Requests = record { queue = c.submit.new.self; waiting = c.self.inside.waiting } in
    subst (λ (before : Requests). Submits before.queue.depth (function_of (Some file) before) c.args.request c.match-submit.result (function_of (Some file) new)) c.self.view_is
    (elim c.match-submit.branch [
      | in-Ok w ↦
          let room : length queue.requests < queue.depth = elim (cases_lt (length queue.requests) queue.depth) [
            | inl below ↦ below
            | inr full ↦ absurd (false≢true (subst IsErr w.in-Ok.is (c.submit.ensures.full.1 full)))
          ] in
          rw w.result-is (submits_queued old new file c.args.request w.in-Ok.id room w.in-Ok.ensures.number w.in-Ok.ensures.waits refl)
      | in-Err w ↦ rw w.result-is (submits_full old new file c.args.request w.in-Err.request (c.submit.ensures.full.0 (subst IsErr (sym w.in-Err.is) refl)) w.in-Err.ensures.back w.in-Err.ensures.stays refl)
    ])
