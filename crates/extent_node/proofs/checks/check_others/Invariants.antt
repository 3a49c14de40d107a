use Rattle.extent_node.specs.Rules.{KeepBelow}
use Rattle.extent_node.proofs.checks.check_others.Given as goal

abbrev pub invariant-loop-i : goal.invariant-loop-i
invariant-loop-i l = KeepBelow l.words l.fn.memory_words l.fn.area l.i
