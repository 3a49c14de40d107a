use Rattle.std.proofs.Common.{ℕ, sym, subst, arith}
use Rattle.host_memory.specs.Words.{known_of}
use Rattle.tree_builder.specs.Building.{MayBuild}
use Rattle.tree_tests.specs.Forests.{Woods, plot_of}
use Rattle.tree_tests.specs.Planted.{NeedsHere}
use Rattle.tree_tests.proofs.Plots.{may_build}
use Rattle.tree_tests.proofs.Woods.{built_is_forest, is_planted}
use Rattle.tree_tests.proofs.forest.Forest.build.Goals as goal

pub build_path-built-requires-clause-may : goal.build_path-built-requires-clause-may
build_path-built-requires-clause-may c =
    subst (λ (root : ℕ). MayBuild c.self.inside.pool (known_of c.self.inside.memory) root c.self.inside.runs c.args.v)
    (sym c.get-root.ensures.root)
    (may_build _ c.args.v c.in_ok-needed.needed (is_planted _ c.args.f.0 c.self.invariant c.requires) c.in_ok-needed.ensures.0
    (subst (λ (woods : Woods). NeedsHere (plot_of woods c.args.f.0) c.args.v c.in_ok-needed.needed) (sym c.self.view_is) c.in_ok-needed.ensures.1)
    c.if-needed-eq0.false (omega arith))

pub invariant_of-self : goal.invariant_of-self
invariant_of-self c =
    built_is_forest _ c.args.f.0 _ _ _ c.get-root.result c.args.v _ c.self.invariant c.requires c.get-root.ensures.root c.build_path-built.ensures
    c.set.ensures
