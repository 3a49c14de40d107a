use Rattle.tree_words.proofs.Showing.{one_layout}
use Rattle.tree_words.proofs.laws.words_show_one_tree.Goals as goal

pub returns : goal.returns
returns c = one_layout
