use Rattle.std.proofs.Common.{arith}
use Rattle.tree_shape.proofs.Beginnings.{few_runs}
use Rattle.tree_shape.proofs.Spans.{low_top}
use Rattle.tree_tests.proofs.plain_tree.top.Goals as goal

pub top_of-requires : goal.top_of-requires
top_of-requires c = omega (arith, c.count.ensures.count, few_runs c.args.runs.now c.count.ensures.are)

pub returns : goal.returns
returns c = low_top c.count.result c.top_of.result (omega (arith, c.count.ensures.count, few_runs c.args.runs.now c.count.ensures.are)) c.top_of.ensures
