use Rattle.tree_words.proofs.NodeWords.{keep_entry_rules, readable_words}
use Rattle.tree_words.proofs.laws.nodes_keep_the_rules.Goals as goal

pub returns-clause-rules : goal.returns-clause-rules
returns-clause-rules c = keep_entry_rules

pub returns-clause-readable : goal.returns-clause-readable
returns-clause-readable c = readable_words
