use Rattle.tree_words.proofs.NodeWords.{says_children, says_runs}
use Rattle.tree_words.proofs.laws.nodes_say.Goals as goal

pub returns-clause-inner : goal.returns-clause-inner
returns-clause-inner c = says_children

pub returns-clause-leaf : goal.returns-clause-leaf
returns-clause-leaf c = says_runs
