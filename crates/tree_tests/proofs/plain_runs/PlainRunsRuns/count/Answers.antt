use Rattle.std.proofs.Common.{arith}
use Rattle.tree_shape.proofs.Beginnings.{few_runs}
use Rattle.tree_tests.proofs.plain_runs.PlainRunsRuns.count.Goals as goal

pub overflow_cast-result : goal.overflow_cast-result
overflow_cast-result c = omega (arith, few_runs c.self.inside.runs.items c.self.invariant, c.len.ensures)
