use Rattle.std.proofs.Common.{◌≡◌, ℕ, ◌-◌, ◌<◌}
use Rattle.tree_shape.specs.Shape.{span}
use Rattle.tree_shape.proofs.shape.top_of.Given as goal

abbrev pub invariant-loop-held : goal.invariant-loop-held
invariant-loop-held l = record {
  spans : l.held ≡ span l.top;
  lowest : (level : ℕ) → level < l.top → span level < l.count;
}

abbrev pub decreases-loop-held : goal.decreases-loop-held
decreases-loop-held l = l.count - l.held
