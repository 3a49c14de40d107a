use Rattle.tree_pruner.proofs.finding.+leaf_under.Given as goal

abbrev pub decreases-leaf_under : goal.decreases-leaf_under
decreases-leaf_under g l = l.height
