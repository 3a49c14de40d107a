use Rattle.std.proofs.Common.{subst, arith}
use Rattle.nesc_base.specs.Runs.{AreRuns}
use Rattle.tree_tests.proofs.Woods.{bare_is_forest}
use Rattle.tree_tests.proofs.forest.Forest.new.Goals as goal

pub invariant_of-result : goal.invariant_of-result
invariant_of-result c =
    bare_is_forest c.args.runs _ _ _ c.args.nodes _ (subst AreRuns c.drop.view_is c.drop.invariant) c.in_ok-new.ensures c.in_ok-new-2.ensures
    c.none.ensures (omega arith)
