use Rattle.std.proofs.Common.{ℕ, ◌<◌, ◌≤◌}
use Rattle.file_layer.specs.Layer.{IsUsed}
use Rattle.file_layer.proofs.files.Files.lowest_unused.Given as goal

-- each so far is used
abbrev pub invariant-loop-n : goal.invariant-loop-n
invariant-loop-n l = (m : ℕ) → 1 ≤ m → m < l.n → IsUsed l.self m
