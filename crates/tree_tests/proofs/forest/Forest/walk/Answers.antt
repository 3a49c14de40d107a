use Rattle.tree_tests.proofs.Woods.{walked_is_forest}
use Rattle.tree_tests.proofs.forest.Forest.walk.Goals as goal

pub invariant_of-self : goal.invariant_of-self
invariant_of-self c = walked_is_forest _ _ c.self.invariant c.walk.ensures.given.made.words
