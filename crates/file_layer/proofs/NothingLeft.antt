-- A change that leaves nothing out.
use Rattle.std.proofs.Common.{ℕ, arith}
use Rattle.file_layer.specs.Staging.{IsLeft, Left}

abbrev pub nothing : Left
nothing = record { file = 0; from = 0; to = 0 }

pub none_left : (m v : ℕ) → ¬ IsLeft nothing m v
none_left m v left = let before = left.2 in absurd (omega (arith, before))
