use Rattle.std.proofs.Common.{◌+◌, false, true, sym, ◌∙◌}
use Rattle.nesc_session.proofs.NextFunction.{needs_next, next_at}
use Rattle.nesc_session.proofs.session.Session.needs_of_tick.Goals as goal

pub returns-in-Some-clause-need : goal.returns-in-Some-clause-need
returns-in-Some-clause-need c =
    let session = c.args.self.now in
    let next = next_at session c.requires.session c.deref.result.now c.next_index.result c.in-Some.index c.index.result.now c.deref.ensures.value c.next_index.ensures.next c.in-Some.is
    c.in-Some.ensures.within c.index.ensures in
    sym (needs_next session c.requires.session (c.in-Some.index + 1) c.index.result.now next.0 next.1 true (sym c.starts_with_write.ensures ∙ c.if-starts_with_write.true))

pub returns-in_default-clause-need : goal.returns-in_default-clause-need
returns-in_default-clause-need c =
    let session = c.args.self.now in
    let next = next_at session c.requires.session c.deref.result.now c.next_index.result c.in-Some.index c.index.result.now c.deref.ensures.value c.next_index.ensures.next c.in-Some.is
    c.in-Some.ensures.within c.index.ensures in
    sym (needs_next session c.requires.session (c.in-Some.index + 1) c.index.result.now next.0 next.1 false (sym c.starts_with_write.ensures ∙ c.if-starts_with_write.false))
