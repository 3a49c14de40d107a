use Rattle.tree_words.proofs.Showing.{stays_shown}
use Rattle.tree_words.proofs.laws.trees_stay_shown.Goals as goal

pub returns : goal.returns
returns c = stays_shown
