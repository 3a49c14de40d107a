use Rattle.std.proofs.Common.{◌++◌, ◌∙◌, sym, append_assoc}
use Rattle.plain_machine.specs.Groups.{line_of}
use Rattle.plain_machine.specs.Lines.{commit_text, line_text}
use Rattle.text_kit.proofs.WritesLemmas.{Writes-then, Writes-cut, Writes-same}
use Rattle.trace_text.specs.Behind.{behind_text}
use Rattle.trace_text.proofs.TraceLemmas.{group_text-parts}
use Rattle.trace_text.proofs.trace.write_step.Goals as goal

pub returns-in_err-write_commit : goal.returns-in_err-write_commit
returns-in_err-write_commit g c =
    let outcome = c.args.outcome.now in
    let commit = commit_text outcome.before in
    let line = line_text (line_of c.args.word outcome.answer) in
    let behind = behind_text outcome in
    Writes-same _ _ _ _ _ _ _ _ (sym (append_assoc commit line behind) ∙ group_text-parts c.args.word outcome)
    (Writes-cut _ _ _ _ _ commit (line ++ behind) _ _ c.from_residual.ensures.0 c.in_err-write_commit.ensures)

pub returns-in_err-write_answer : goal.returns-in_err-write_answer
returns-in_err-write_answer g c =
    let outcome = c.args.outcome.now in
    let commit = commit_text outcome.before in
    let line = line_text (line_of c.args.word outcome.answer) in
    Writes-same _ _ _ _ _ _ _ _ (group_text-parts c.args.word outcome)
    (Writes-cut _ _ _ _ _ (commit ++ line) (behind_text outcome) _ _ c.from_residual-in_err-write_answer.ensures.0
    (Writes-then _ _ _ _ _ _ commit line _ c.in_ok-write_commit.ensures c.in_err-write_answer.ensures))

pub returns : goal.returns
returns g c =
    let outcome = c.args.outcome.now in
    let commit = commit_text outcome.before in
    let line = line_text (line_of c.args.word outcome.answer) in
    Writes-same _ _ _ _ _ _ _ _ (group_text-parts c.args.word outcome)
    (Writes-then _ _ _ _ _ _ (commit ++ line) (behind_text outcome) _
    (Writes-then _ _ _ _ _ _ commit line _ c.in_ok-write_commit.ensures c.in_ok-write_answer.ensures) c.write_behind.ensures)
