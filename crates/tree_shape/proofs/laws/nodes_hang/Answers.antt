use Rattle.tree_shape.proofs.Borders.{hangs_under}
use Rattle.tree_shape.proofs.laws.nodes_hang.Goals as goal

pub returns : goal.returns
returns c = hangs_under
