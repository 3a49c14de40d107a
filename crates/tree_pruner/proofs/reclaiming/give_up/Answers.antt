use Rattle.std.proofs.Common.{inr, ℕ, ◌-◌, ◌∙◌, subst, arith}
use Rattle.std.proofs.lemmas.Nat.{one_shl}
use Rattle.tree_pruner.specs.Dropping.{DropsTree}
use Rattle.tree_pruner.proofs.reclaiming.give_up.Goals as goal

pub returns-clause-turn : goal.returns-clause-turn
returns-clause-turn g c =
    let last = c.requires.function.last in
    inr (record {
      stood = λ zero. c.if-root-eq0.false (c.get-root.ensures.root ∙ zero);
      bit_is = one_shl (c.args.g.0 - 1) 16 (omega arith);
      count = c.drop_tree.result;
      drops = subst (λ (root : ℕ). DropsTree (g.M.Memory.known c.args.memory.now).words root c.drop_tree.result c.args.pool.now c.drop_tree.new.pool)
          c.get-root.ensures.root c.drop_tree.ensures.drops;
      root = c.set.ensures;
    })
