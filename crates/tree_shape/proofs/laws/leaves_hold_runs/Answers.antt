use Rattle.tree_shape.proofs.Leaves.{holds_runs}
use Rattle.tree_shape.proofs.laws.leaves_hold_runs.Goals as goal

pub returns : goal.returns
returns c = holds_runs
