use Rattle.tree_shape.proofs.Beginnings.{few_runs}
use Rattle.tree_shape.proofs.laws.runs_are_few.Goals as goal

pub returns : goal.returns
returns c = few_runs
