use Rattle.tree_shape.proofs.Borders.{one_node_over}
use Rattle.tree_shape.proofs.laws.one_node_covers.Goals as goal

pub returns : goal.returns
returns c = one_node_over
