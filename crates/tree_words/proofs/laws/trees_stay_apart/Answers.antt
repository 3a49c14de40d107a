use Rattle.tree_words.proofs.Trees.{stay_apart, stay_taken}
use Rattle.tree_words.proofs.laws.trees_stay_apart.Goals as goal

pub returns-clause-taken : goal.returns-clause-taken
returns-clause-taken c = stay_taken

pub returns-clause-apart : goal.returns-clause-apart
returns-clause-apart c = stay_apart
