use Rattle.extent_node.proofs.Nodes.{some_node}
use Rattle.extent_node.proofs.laws.words_without_a_bad_one_are_a_node.Goals as goal

pub returns : goal.returns
returns c = some_node
