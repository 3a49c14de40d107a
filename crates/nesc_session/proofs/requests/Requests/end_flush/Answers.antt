use Rattle.std.proofs.Common.{◌≡◌, ◌+◌, ◌∷◌, Some, refl, sym, ap, ◌∙◌, subst}
use Rattle.nesc_requests.specs.Requests.{first_of}
use Rattle.nesc_requests.specs.declared.request.End.TheVariants as end
use Rattle.plain_machine.specs.declared.outcome.Answer.TheVariants.{Flushed}
use Rattle.plain_machine.specs.declared.outcome.Outcome.{Outcome}
use Rattle.request_queues.specs.Queue.{Queue}
use Rattle.nesc_session.specs.Requests.{IsUnderWay, Requests, starts_with_flush}
use Rattle.nesc_session.proofs.HeadServed.{flush_not_begun, head_flush}
use Rattle.nesc_session.proofs.Served.{ends_left, ends_told, flush_waits_not, serves_flush}
use Rattle.nesc_session.proofs.requests.Requests.end_flush.Goals as goal

pub returns-clause-serves : goal.returns-clause-serves
returns-clause-serves c files file =
    let queue : Queue = c.self.inside.queue in
    let flush = ap (λ (r : Requests). starts_with_flush r.queue.requests) c.self.view_is ∙ c.requires.flush in
    let (head, rest, split, asked) = head_flush queue.requests flush in
    let none = flush_not_begun head.request queue.done asked (subst (IsUnderWay queue.done) split c.self.invariant.under_way) in
    let was : queue ≡ record queue { requests = head ∷ rest; done = 0 } = λ i. record queue { requests = split i; done = none i } in
    let told = ends_told c.args.f (Flushed c.args.f) (end.Flushed c.args.clock) queue queue c.end.result c.end.new.queue head rest 0 c.end.ensures was in
    let left = ends_left c.args.f (Flushed c.args.f) (end.Flushed c.args.clock) queue queue c.end.result c.end.new.queue head rest 0 c.end.ensures was in
    let waits = flush_waits_not c.self.inside.waiting queue.done queue.requests c.self.invariant.waits flush in
    let idle = sym (ap (λ (r : Requests). r.waiting) c.self.view_is) ∙ waits in
    serves_flush files c.args.f file c.args.self.now queue head rest (first_of head.request + queue.done) (sym (ap (λ (r : Requests). r.queue) c.self.view_is)) idle split refl asked c.args.clock _ _
    (ap (λ (o : Outcome). record o { after = Some c.args.clock }) told) left waits
