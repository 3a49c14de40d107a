-- The trees of all functions, of which one changes.
use Rattle.std.specs.Prelude.{◌≡◌, ◌↔◌, ℕ, ◌==◌, List, slice_get, Some, if◌then◌else◌}
use Rattle.tree_words.specs.Shown.{IsOfTree, Layout}

-- what each function has, but that function f has this
abbrev pub with_for : {X : Type 0} → (ℕ → X) → ℕ → X → ℕ → X
with_for given f own g = if g == f then own else given g

-- the list has the address of each node that stands, each once, and no other
pub record IsListOf (layout : Layout) (nodes : List ℕ) : Type 0 where
  pub each : (address : ℕ) → IsOfTree layout address ↔ ((j : ℕ) × (slice_get nodes j ≡ Some address))
  pub once : (i j address : ℕ) → slice_get nodes i ≡ Some address → slice_get nodes j ≡ Some address → i ≡ j
