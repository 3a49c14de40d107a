use Rattle.tree_words.proofs.Places.{puts_node, puts_word}
use Rattle.tree_words.proofs.laws.nodes_are_apart.Goals as goal

pub returns-clause-node : goal.returns-clause-node
returns-clause-node c = puts_node

pub returns-clause-word : goal.returns-clause-word
returns-clause-word c = puts_word
