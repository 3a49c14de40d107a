use Rattle.extent_node.specs.Rules.{KeepBelow}
use Rattle.extent_node.specs.Words.{first_word}
use Rattle.extent_node.proofs.checks.check_entries.Given as goal

abbrev pub invariant-loop-k : goal.invariant-loop-k
invariant-loop-k l = KeepBelow l.words l.memory_words l.area (first_word l.k)
