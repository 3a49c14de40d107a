use Rattle.tree_shape.proofs.Paths.{has_path}
use Rattle.tree_shape.proofs.laws.paths_lead_to_leaves.Goals as goal

pub returns : goal.returns
returns c = has_path
