use Rattle.std.proofs.Common.{ℕ, ◌<◌, ◌≤◌, ◌∙◌, refl, sym, subst}
use Rattle.nesc_base.specs.Memory.{KnownMemory}
use Rattle.tree_pruner.specs.Dropping.{HasTree}
use Rattle.tree_pruner.specs.Reclaiming.{TakesTurn, without_trees}
use Rattle.tree_pruner.specs.Roots.{root_of}
use Rattle.tree_pruner.proofs.Groves.{has_tree}
use Rattle.tree_pruner.proofs.Turns.{turns_from}
use Rattle.tree_pruner.proofs.Underway.{all_turns, all_wait, enough_free, first_fits, mask_fits, none_gone, one_less_waits, turn_taken}
use Rattle.tree_pruner.proofs.reclaiming.reclaim.Goals as goal

pub loop-turn-init : goal.loop-turn-init
loop-turn-init g c = record {
  memory = refl;
  wait = all_wait c.args.f.0 (record { pool = c.args.pool.now; roots = c.args.roots.now });
  fits = first_fits c.args.f.0 c.requires.function;
  trees = λ runs layouts trees. none_gone runs layouts c.args.f.0 c.args.needed _ _ trees;
}

pub returns-then-free-needed-clause-reclaims : goal.returns-then-free-needed-clause-reclaims
returns-then-free-needed-clause-reclaims g c = λ runs layouts trees.
    enough_free runs layouts c.args.f.0 c.args.needed c.loop-turn.turn c.loop-turn.mask _ _ _ (c.loop-turn.invariant.trees runs layouts trees) _
    (turns_from c.args.f.0 c.loop-turn.turn _ c.requires.function c.loop-turn-test.true refl)
    (subst (λ (free : ℕ). c.args.needed ≤ free) c.free.ensures c.if-free-needed.true)

pub give_up-mask-requires-clause-tree : goal.give_up-mask-requires-clause-tree
give_up-mask-requires-clause-tree g c = λ stood.
    let under = c.loop-turn.invariant.trees c.requires.runs c.requires.layouts c.requires.trees in
    subst (λ (known : KnownMemory). HasTree c.loop-turn.pool known.words (root_of c.loop-turn.roots c.in_turn.result.0))
    (sym c.loop-turn.invariant.memory)
    (has_tree c.loop-turn.pool _ c.loop-turn.roots c.requires.runs (without_trees under.gone c.requires.layouts) c.in_turn.result.0
    c.in_turn.ensures.function under.left)

pub loop-turn-preserved : goal.loop-turn-preserved
loop-turn-preserved g c =
    let turns = turns_from c.args.f.0 c.loop-turn.turn c.in_turn.result.0 c.requires.function c.loop-turn-test.true c.in_turn.ensures.turn in
    let takes : TakesTurn (g.M.Memory.known c.args.memory.now).words c.in_turn.result.0 c.give_up-mask.result
    (record { pool = c.loop-turn.pool; roots = c.loop-turn.roots })
    (record { pool = c.give_up-mask.new.pool; roots = c.give_up-mask.new.roots }) =
    subst (λ (known : KnownMemory). TakesTurn known.words c.in_turn.result.0 c.give_up-mask.result
    (record { pool = c.loop-turn.pool; roots = c.loop-turn.roots })
    (record { pool = c.give_up-mask.new.pool; roots = c.give_up-mask.new.roots })) c.loop-turn.invariant.memory c.give_up-mask.ensures.turn in
    record {
      memory = c.give_up-mask.ensures.memory ∙ c.loop-turn.invariant.memory;
      wait = one_less_waits _ c.args.f.0 c.loop-turn.turn c.in_turn.result.0 c.give_up-mask.result _ _ c.requires.function
          c.in_turn.ensures.function c.loop-turn-test.true c.in_turn.ensures.turn takes c.loop-turn.invariant.wait;
      fits = mask_fits _ c.args.f.0 c.loop-turn.turn c.loop-turn.mask c.in_turn.result.0 c.give_up-mask.result _ _ turns takes c.loop-turn.invariant.fits;
      trees = λ runs layouts trees.
          turn_taken runs layouts c.args.f.0 c.args.needed c.loop-turn.turn c.loop-turn.mask c.in_turn.result.0 c.give_up-mask.result _ _ _ _
          c.in_turn.ensures.function turns (subst (λ (free : ℕ). free < c.args.needed) c.free.ensures c.if-free-needed.false)
          (c.loop-turn.invariant.trees runs layouts trees) takes;
    }

pub returns-clause-reclaims : goal.returns-clause-reclaims
returns-clause-reclaims g c = λ runs layouts trees.
    all_turns runs layouts c.args.f.0 c.args.needed c.loop-turn.turn c.loop-turn.mask _ _ _ (c.loop-turn.invariant.trees runs layouts trees)
    c.requires.function c.loop-turn-test.false c.loop-turn.invariant.wait c.requires.within
