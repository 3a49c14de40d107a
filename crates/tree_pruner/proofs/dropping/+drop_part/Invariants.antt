-- The nodes under the first entries have gone.
use Rattle.std.proofs.Common.{◌≡◌, ℕ, List}
use Rattle.nesc_base.specs.declared.runs.Run.{Run}
use Rattle.tree_words.specs.Shown.{Layout, ShowsAt}
use Rattle.tree_pruner.specs.Parts.{Frees, IsBelow}
use Rattle.tree_pruner.proofs.dropping.+drop_part.Given as goal

abbrev pub decreases-drop_part : goal.decreases-drop_part
decreases-drop_part g l = l.height

abbrev pub invariant-loop-i : goal.invariant-loop-i
invariant-loop-i g l =
    (runs : List Run) (top : ℕ) (layout : Layout) (level k : ℕ) → ShowsAt (g.M.Memory.known l.memory).words runs top layout
    → l.node ≡ layout level k → Frees (IsBelow layout level k l.i) l.fn.pool l.pool
