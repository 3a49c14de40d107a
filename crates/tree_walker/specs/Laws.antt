-- What is so of every walk, by its definition alone.
use Rattle.std.specs.Prelude.{◌≡◌, ℕ, ◌≤◌, List, length}
use Rattle.nesc_base.specs.declared.runs.Area.{Area}
use Rattle.tree_walker.specs.declared.found.Found.{Found}
use Rattle.tree_walker.specs.Walking.{WalkOf, most_fetches}

-- over the words of a memory a walk ends in one way
abbrev pub EndsOneWay : List ℕ → ℕ → ℕ → Area → Type 0
EndsOneWay words root v area =
    (found other : Found) (addresses others : List ℕ)
    → WalkOf words root v area found addresses → WalkOf words root v area other others
    → (found ≡ other) × (addresses ≡ others)

-- it fetches no more nodes than it may
abbrev pub FetchesFew : List ℕ → ℕ → ℕ → Area → Type 0
FetchesFew words root v area =
    (found : Found) (addresses : List ℕ) → WalkOf words root v area found addresses → length addresses ≤ most_fetches
