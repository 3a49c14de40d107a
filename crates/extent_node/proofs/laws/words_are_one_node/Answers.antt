use Rattle.extent_node.proofs.Nodes.{one_node}
use Rattle.extent_node.proofs.laws.words_are_one_node.Goals as goal

pub returns : goal.returns
returns c = one_node
