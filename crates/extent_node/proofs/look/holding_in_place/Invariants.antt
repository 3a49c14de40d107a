use Rattle.std.proofs.Common.{◌<◌, ℕ}
use Rattle.extent_node.specs.Rules.{Holds}
use Rattle.extent_node.specs.Words.{entry_at}
use Rattle.extent_node.proofs.look.holding_in_place.Given as goal

abbrev pub invariant-loop-k : goal.invariant-loop-k
invariant-loop-k l = (j : ℕ) → j < l.k → ¬ Holds (entry_at l.words j) l.v
