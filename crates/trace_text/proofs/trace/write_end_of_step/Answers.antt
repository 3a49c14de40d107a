use Rattle.std.proofs.Common.{Some}
use Rattle.plain_machine.specs.Groups.{reply_line_of}
use Rattle.plain_machine.specs.Lines.{commit_text, reply_text}
use Rattle.text_kit.proofs.WritesLemmas.{Writes-then}
use Rattle.trace_text.proofs.trace.write_end_of_step.Goals as goal

pub returns-in-Some : goal.returns-in-Some
returns-in-Some g c =
    let commit = commit_text c.args.outcome.now.after in
    let reply = reply_text (Some (reply_line_of c.in-Some.reply)) in
    rw c.in-Some.is (Writes-then _ _ _ _ _ _ commit reply _ c.in_ok-write_commit.ensures c.write_reply.ensures)
