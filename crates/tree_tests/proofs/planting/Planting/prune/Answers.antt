use Rattle.std.proofs.Common.{sym, subst, ◌∙◌}
use Rattle.tree_tests.specs.Planted.{CannotPrune, IsPlanted, Plot}
use Rattle.tree_tests.proofs.Plots.{pruned_is_planted, prunes_none, unpruned}
use Rattle.tree_tests.proofs.planting.Planting.prune.Goals as goal

pub invariant_of-self : goal.invariant_of-self
invariant_of-self c = subst IsPlanted (sym (unpruned _ _ _ c.args.v c.self.invariant c.in_err-pruned.ensures)) c.self.invariant

pub returns-in_err-pruned : goal.returns-in_err-pruned
returns-in_err-pruned c =
    let cannot : CannotPrune c.args.self.now c.args.v = subst (λ (plot : Plot). CannotPrune plot c.args.v) c.self.view_is
    (prunes_none _ _ _ c.args.v c.self.invariant c.in_err-pruned.ensures) in
    let same = unpruned _ _ _ c.args.v c.self.invariant c.in_err-pruned.ensures in
    rw c.from_residual.ensures (same ∙ c.self.view_is, cannot)

pub invariant_of-self-2 : goal.invariant_of-self-2
invariant_of-self-2 c = pruned_is_planted _ _ _ c.args.v _ c.self.invariant c.in_ok-pruned.ensures
