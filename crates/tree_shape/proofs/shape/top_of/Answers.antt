use Rattle.std.proofs.Common.{arith}
use Rattle.tree_shape.proofs.Spans.{span_over, span_some}
use Rattle.tree_shape.proofs.shape.top_of.Goals as goal

pub overflow_add-top : goal.overflow_add-top
overflow_add-top c = omega (arith, span_over c.loop-held.top)

pub loop-held-smaller : goal.loop-held-smaller
loop-held-smaller c = omega (arith, span_some c.loop-held.top)
