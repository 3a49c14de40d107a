-- A run is put behind others.
use Rattle.std.specs.Prelude.{◌≡◌, ◌↔◌, ℕ, ◌+◌, Bool, true, false, List, [], ◌∷◌, ◌++◌, Some, length, slice_get}
use Rattle.nesc_base.specs.Runs.{AreRuns, IsBehind}
use Rattle.nesc_base.specs.declared.runs.Run.{Run}

-- the run comes behind the last of these
abbrev pub IsNext : List Run → Run → Type 0
IsNext runs run = (k : ℕ) (last : Run) → slice_get runs k ≡ Some last → length runs ≡ k + 1 → IsBehind last run

-- It was put behind the others where they are runs of a file then, and else nothing has changed.
pub record PutsBehind (put : Bool) (run : Run) (old new : List Run) : Type 0 where
  pub fits : (put ≡ true) ↔ AreRuns (old ++ run ∷ [])
  pub behind : put ≡ true → new ≡ old ++ run ∷ []
  pub same : put ≡ false → new ≡ old
