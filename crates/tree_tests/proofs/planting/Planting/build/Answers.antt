use Rattle.std.proofs.Common.{◌≡◌, refl, inl, inr, sym, ap, subst, arith}
use Rattle.host_memory.specs.Pool.{free_of}
use Rattle.tree_tests.specs.Planted.{NeedsHere, Plot}
use Rattle.tree_tests.proofs.Plots.{built_is_planted, may_build}
use Rattle.tree_tests.proofs.planting.Planting.build.Goals as goal
use Rattle.tree_tests.proofs.planting.Planting.build.Goals.{then-needed-eq0-via-then-needed-eq0, then-needed-eq0-via-else-needed-eq0+then-free-needed}

pub returns-then-needed-eq0 : goal.returns-then-needed-eq0
returns-then-needed-eq0 c = elim c.then-needed-eq0.branch [
  | then-needed-eq0-via-then-needed-eq0 w ↦
      (refl, inr (inl (subst (NeedsHere c.args.self.now c.args.v) w.if-needed-eq0.true c.in_ok-needed.ensures.1)))
  | then-needed-eq0-via-else-needed-eq0+then-free-needed w ↦
      let same : free_of c.args.self.now.pool ≡ free_of c.self.inside.pool = ap (λ (plot : Plot). free_of plot.pool) (sym c.self.view_is) in
      (refl, inr (inr (c.in_ok-needed.needed, c.in_ok-needed.ensures.1, omega arith)))
]

pub build_path-built-requires-clause-may : goal.build_path-built-requires-clause-may
build_path-built-requires-clause-may c =
    may_build _ c.args.v c.in_ok-needed.needed c.self.invariant c.in_ok-needed.ensures.0
    (subst (λ (plot : Plot). NeedsHere plot c.args.v c.in_ok-needed.needed) (sym c.self.view_is) c.in_ok-needed.ensures.1)
    c.if-needed-eq0.false (omega arith)

pub invariant_of-self : goal.invariant_of-self
invariant_of-self c = built_is_planted _ _ _ c.args.v _ c.self.invariant c.build_path-built.ensures
