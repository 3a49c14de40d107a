use Rattle.std.proofs.Common.{refl}
use Rattle.tree_tests.proofs.Plots.{dropped_is_planted, same_known}
use Rattle.tree_tests.proofs.planting.Planting.drop_all.Goals as goal

pub invariant_of-self : goal.invariant_of-self
invariant_of-self c =
    dropped_is_planted _ _ _ c.drop_tree-count.result c.self.invariant c.drop_tree-count.ensures.drops
    (same_known _ _ c.drop_tree-count.ensures.memory)

pub returns : goal.returns
returns c = rw (← c.self.view_is)
    (record { drops = c.drop_tree-count.ensures.drops; root = refl; memory = same_known _ _ c.drop_tree-count.ensures.memory; runs = refl })
