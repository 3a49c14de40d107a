use Rattle.std.proofs.Common.{◌<◌, length, rules, arith}
use Rattle.std.proofs.lemmas.Grind.{common_steps}
use Rattle.request_queues.proofs.Behind.{queue_behind}
use Rattle.request_queues.proofs.queue.Queue.submit.Goals as goal

pub invariant_of-self : goal.invariant_of-self
invariant_of-self c =
    let within = c.self.invariant.within in
    let room : length c.self.inside.requests.items < c.self.inside.requests.capacity = grind (arith, common_steps) in
    queue_behind c.self.inside.requests c.try_push_back.new.self c.self.inside.done c.self.inside.next c.saturating_add-self-inside.result c.args.request c.self.invariant room (search rules)
    c.saturating_add-self-inside.ensures
