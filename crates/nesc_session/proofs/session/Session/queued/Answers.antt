use Rattle.std.proofs.Common.{List, length, sym, ap, ◌∙◌}
use Rattle.plain_machine.specs.Functions.{Function, function_at, queue_of}
use Rattle.nesc_session.specs.Requests.{Requests}
use Rattle.nesc_session.proofs.Items.{numbered_item}
use Rattle.nesc_session.proofs.SessionFunctions.{queue_in, queue_off}
use Rattle.nesc_session.proofs.session.Session.queued.Goals as goal

pub returns-in-Some : goal.returns-in-Some
returns-in-Some c kept state placed stands =
    let session = c.args.self.now in
    let found = c.in-Some.ensures.some in
    let at = numbered_item session.requests.items c.args.f.0 c.in-Some.index c.index.result.now found.1 found.0 c.index.ensures in
    c.len.ensures.count ∙ ap (λ (requests : Requests). length requests.queue.requests) c.behind-self.view_is ∙ ap length (sym (queue_in session c.requires.session c.args.f.0 c.index.result.now at))
    ∙ ap (λ (functions : List Function). length (queue_of (function_at functions c.args.f.0))) (sym stands.functions)

pub returns-in-None : goal.returns-in-None
returns-in-None c kept state placed stands =
    let session = c.args.self.now in
    sym (ap length (queue_off session c.requires.session c.args.f.0 c.in-None.ensures.none))
    ∙ ap (λ (functions : List Function). length (queue_of (function_at functions c.args.f.0))) (sym stands.functions)
