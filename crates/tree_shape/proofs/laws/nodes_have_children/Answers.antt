use Rattle.tree_shape.proofs.Borders.{has_children}
use Rattle.tree_shape.proofs.laws.nodes_have_children.Goals as goal

pub returns : goal.returns
returns c = has_children
