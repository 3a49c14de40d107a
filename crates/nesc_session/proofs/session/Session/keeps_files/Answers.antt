use Rattle.std.proofs.Common.{◌+◌, sym, subst, ◌∙◌}
use Rattle.nesc_session.specs.Stepping.{KeepsFor}
use Rattle.nesc_session.proofs.NextFunction.{keeps_flush, keeps_no_flush, next_at}
use Rattle.nesc_session.proofs.session.Session.keeps_files.Goals as goal

pub returns-in-Some-clause-yes : goal.returns-in-Some-clause-yes
returns-in-Some-clause-yes c flush =
    let session = c.args.self.now in
    let next = next_at session c.requires.session c.deref.result.now c.next_index.result c.in-Some.index c.index.result.now c.deref.ensures.value c.next_index.ensures.next c.in-Some.is
    c.in-Some.ensures.within c.index.ensures in
    subst (KeepsFor session) (sym c.in-Tick.is)
    (keeps_flush session c.requires.session (c.in-Some.index + 1) c.index.result.now next.0 next.1 (sym c.starts_with_flush.ensures ∙ flush))

pub returns-in-Some-clause-no : goal.returns-in-Some-clause-no
returns-in-Some-clause-no c flush keeps =
    let session = c.args.self.now in
    let next = next_at session c.requires.session c.deref.result.now c.next_index.result c.in-Some.index c.index.result.now c.deref.ensures.value c.next_index.ensures.next c.in-Some.is
    c.in-Some.ensures.within c.index.ensures in
    keeps_no_flush session c.requires.session (c.in-Some.index + 1) c.index.result.now next.0 next.1 (sym c.starts_with_flush.ensures ∙ flush) (subst (KeepsFor session) c.in-Tick.is keeps)
