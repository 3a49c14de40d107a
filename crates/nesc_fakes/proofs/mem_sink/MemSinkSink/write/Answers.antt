use Rattle.std.proofs.Common.{rules}
use Rattle.nesc_fakes.proofs.mem_sink.MemSinkSink.write.Goals as goal
use Rattle.nesc_fakes.proofs.mem_sink.MemSinkSink.write.Goals.{then-contains-via-then-contains, then-contains-via-else-contains+then-is_err}

pub returns-then-contains-clause-only : goal.returns-then-contains-clause-only
returns-then-contains-clause-only c =
    elim c.then-contains.branch [
      | then-contains-via-then-contains w ↦ search rules
      | then-contains-via-else-contains+then-is_err w ↦ search rules
    ]
