use Rattle.std.proofs.Common.{arith}
use Rattle.tree_shape.proofs.Spans.{span_some}
use Rattle.tree_shape.proofs.shape.width_of.Goals as goal

pub overflow_sub-span : goal.overflow_sub-span
overflow_sub-span c = omega (arith, span_some c.args.level)

pub nonzero_div-count : goal.nonzero_div-count
nonzero_div-count c = omega (arith, span_some c.args.level)
