use Rattle.extent_node.proofs.Nodes.{no_bad_word}
use Rattle.extent_node.proofs.laws.nodes_have_no_bad_word.Goals as goal

pub returns : goal.returns
returns c = no_bad_word
