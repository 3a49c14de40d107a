use Rattle.std.proofs.Common.{ℕ, ◌<◌}
use Rattle.image_layout.specs.Opens.{Repeats}
use Rattle.image_layout.proofs.repeats.first_repeated.Given as goal
use Rattle.nesc_base.specs.Places.{Owner}

-- no data block before block k repeats an earlier one
abbrev pub invariant-loop-k : goal.invariant-loop-k
invariant-loop-k l = (j : ℕ) (owner : Owner) → j < l.k → ¬ Repeats l.owners j owner
