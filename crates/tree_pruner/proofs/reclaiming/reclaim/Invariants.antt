-- Some functions have had their turns.
use Rattle.std.proofs.Common.{◌≡◌, ℕ, List}
use Rattle.nesc_base.specs.declared.runs.Run.{Run}
use Rattle.tree_words.specs.Shown.{Layout}
use Rattle.tree_pruner.specs.Reclaiming.{AreTrees}
use Rattle.tree_pruner.proofs.Underway.{Fits, Underway, Wait}
use Rattle.tree_pruner.proofs.reclaiming.reclaim.Given as goal

abbrev pub invariant-loop-turn : goal.invariant-loop-turn
invariant-loop-turn g l = record {
  memory : g.M.Memory.known l.memory ≡ g.M.Memory.known l.fn.memory;
  wait : Wait l.f.0 l.turn (record { pool = l.pool; roots = l.roots });
  fits : Fits l.f.0 l.turn l.mask;
  trees : (runs : ℕ → List Run) (layouts : ℕ → Layout)
      → AreTrees l.fn.pool (g.M.Memory.known l.fn.memory).words l.fn.roots runs layouts
      → Underway runs layouts l.f.0 l.needed l.turn l.mask (g.M.Memory.known l.fn.memory).words
      (record { pool = l.fn.pool; roots = l.fn.roots }) (record { pool = l.pool; roots = l.roots });
}
