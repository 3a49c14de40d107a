use Rattle.std.proofs.Common.{◌≡◌, take}
use Rattle.tree_words.specs.Shown.{leaf_entries}
use Rattle.tree_builder.proofs.nodes.leaf_node.Given as goal

abbrev pub invariant-loop-i : goal.invariant-loop-i
invariant-loop-i g l = l.entries ≡ take l.i (leaf_entries (g.R.Runs.runs l.runs) l.fn.leaf)
