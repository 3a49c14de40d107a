use Rattle.tree_shape.proofs.Spans.{nodes_over_runs}
use Rattle.tree_shape.proofs.laws.nodes_stand_over_runs.Goals as goal

pub returns : goal.returns
returns c = nodes_over_runs
