use Rattle.tree_words.proofs.NodeWords.{are_local, links_child}
use Rattle.tree_words.proofs.laws.nodes_link.Goals as goal

pub returns-clause-links : goal.returns-clause-links
returns-clause-links c = links_child

pub returns-clause-alone : goal.returns-clause-alone
returns-clause-alone c = are_local
