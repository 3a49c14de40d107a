-- None of the entries so far holds the block.
use Rattle.std.proofs.Common.{ℕ, ◌<◌}
use Rattle.nesc_base.specs.Memory.{node_at}
use Rattle.extent_node.specs.Rules.{Holds}
use Rattle.extent_node.specs.Words.{entry_at}
use Rattle.tree_pruner.proofs.finding.entry_over.Given as goal

abbrev pub invariant-loop-i : goal.invariant-loop-i
invariant-loop-i g l = (j : ℕ) → j < l.i → ¬ Holds (entry_at (node_at (g.M.Memory.known l.memory).words l.node) j) l.fn.v
