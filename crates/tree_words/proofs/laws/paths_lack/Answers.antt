use Rattle.tree_words.proofs.Paths.{has_one_lack}
use Rattle.tree_words.proofs.Showing.{stands_on_root}
use Rattle.tree_words.proofs.laws.paths_lack.Goals as goal

pub returns-clause-lack : goal.returns-clause-lack
returns-clause-lack c = has_one_lack

pub returns-clause-root : goal.returns-clause-root
returns-clause-root c = stands_on_root
