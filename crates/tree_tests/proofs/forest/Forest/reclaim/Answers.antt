use Rattle.tree_tests.proofs.Woods.{reclaimed_is_forest}
use Rattle.tree_tests.proofs.forest.Forest.reclaim.Goals as goal

pub invariant_of-self : goal.invariant_of-self
invariant_of-self c =
    reclaimed_is_forest _ _ c.args.needed _ _ _ _ c.self.invariant c.requires c.reclaim.ensures.reclaims c.reclaim.ensures.memory
