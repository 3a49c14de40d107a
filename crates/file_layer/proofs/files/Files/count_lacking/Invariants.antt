use Rattle.std.proofs.Common.{◌≡◌, ℕ, ◌-◌, ◌≤◌, length}
use Rattle.file_layer.specs.Layer.{lacking}
use Rattle.file_layer.proofs.files.Files.count_lacking.Given as goal

-- those so far are counted, and none behind the end
pub record Counted (count so_far at v end : ℕ) : Type 0 where
  pub counted : count ≡ so_far
  pub few : count ≤ at - v
  pub within : at - v ≤ end - v

abbrev pub invariant-loop-at : goal.invariant-loop-at
invariant-loop-at l = Counted l.count (length (lacking l.self l.file.0 l.v (l.at - l.v))) l.at l.v l.end
