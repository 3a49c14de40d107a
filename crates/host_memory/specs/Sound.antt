-- What a pool of nodes keeps, each part of which says the same.
use Rattle.std.specs.Prelude.{◌≡◌, ℕ, ◌-◌, ◌<◌, ◌≤◌, ◌^◌, Bool, false, not, List, length, Some, slice_get}
use Rattle.std.specs.List.{count_by}

-- The list names only nodes that are free, each once and each of them, and there is memory for the names of all nodes.
pub record IsSound (taken : List Bool) (free : List ℕ) (room : ℕ) : Type 0 where
  pub fits : length taken < 2 ^ 16
  pub free_only : (j k : ℕ) → slice_get free j ≡ Some k → slice_get taken k ≡ Some false
  pub once : (i j k : ℕ) → slice_get free i ≡ Some k → slice_get free j ≡ Some k → i ≡ j
  pub each : length free ≡ count_by not taken
  pub enough : length taken ≤ room

-- the list of all nodes, the lowest last
pub record NamesAll (nodes : ℕ) (free : List ℕ) : Type 0 where
  pub as_many : length free ≡ nodes
  pub each : (j : ℕ) → j < nodes → slice_get free j ≡ Some (nodes - 1 - j)
