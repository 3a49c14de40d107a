use Rattle.std.proofs.Common.{◌-◌, ◌<◌, ◌≤◌, length}
use Rattle.tree_shape.specs.Shape.{border, width}
use Rattle.tree_shape.proofs.shape.leaf_over.Given as goal

abbrev pub invariant-loop-high : goal.invariant-loop-high
invariant-loop-high g l = record {
  some : l.low < l.high;
  within : l.high ≤ width (length (g.R.Runs.runs l.runs)) 0;
  from : border (g.R.Runs.runs l.runs) 0 l.low ≤ l.v;
  below : l.v < border (g.R.Runs.runs l.runs) 0 l.high;
}

abbrev pub decreases-loop-high : goal.decreases-loop-high
decreases-loop-high g l = l.high - l.low
