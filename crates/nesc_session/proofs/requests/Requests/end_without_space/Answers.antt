use Rattle.std.proofs.Common.{◌≡◌, ◌∷◌, None, is_some, ap, subst, ◌∙◌}
use Rattle.nesc_requests.specs.declared.request.End.TheVariants as end
use Rattle.request_queues.specs.Queue.{Queue}
use Rattle.nesc_session.specs.Requests.{Requests}
use Rattle.nesc_session.specs.Serving.{EndsWithNoSpace}
use Rattle.nesc_session.proofs.HeadServed.{head_waited_for}
use Rattle.nesc_session.proofs.Served.{ends_left, ends_told}
use Rattle.nesc_session.proofs.requests.Requests.end_without_space.Goals as goal

pub returns-clause-ends : goal.returns-clause-ends
returns-clause-ends c =
    let queue : Queue = c.self.inside.queue in
    let some = ap (λ (r : Requests). is_some r.waiting) c.self.view_is ∙ c.requires.waits in
    let (head, rest, split) = head_waited_for queue.requests queue.done c.self.inside.waiting c.self.invariant.waits some in
    let was : queue ≡ record queue { requests = head ∷ rest } = λ i. record queue { requests = split i } in
    let left = ends_left c.args.f _ end.NoSpace queue queue c.end.result c.end.new.queue head rest queue.done c.end.ensures was in
    subst (λ (old : Requests). EndsWithNoSpace c.args.f old c.end.result (record { queue = c.end.new.queue; waiting = None })) c.self.view_is
    (record {
      head = head;
      rest = rest;
      queue = split;
      ready = λ i. record { queue = left i; waiting = None };
      told = ends_told c.args.f _ end.NoSpace queue queue c.end.result c.end.new.queue head rest queue.done c.end.ensures was;
    })
