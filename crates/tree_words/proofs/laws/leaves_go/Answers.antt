use Rattle.tree_words.proofs.Steps.{takes_leaf}
use Rattle.tree_words.proofs.laws.leaves_go.Goals as goal

pub returns : goal.returns
returns c = takes_leaf
