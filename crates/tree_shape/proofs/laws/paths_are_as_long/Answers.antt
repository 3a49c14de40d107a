use Rattle.tree_shape.proofs.Paths.{is_path}
use Rattle.tree_shape.proofs.laws.paths_are_as_long.Goals as goal

pub returns : goal.returns
returns c = is_path
