-- The roots of the trees of all functions.
use Rattle.std.specs.Prelude.{ℕ, ◌-◌, ◌≤◌, List, replicate, slice_index}
use Rattle.nesc_requests.specs.Machine.{most_functions}

-- each function's root, the first being that of function 1; 0 where it has no tree
abbrev pub Roots : Type 0
Roots = List ℕ

abbrev pub no_roots : Roots
no_roots = replicate most_functions 0

-- there is a function of this number
pub record IsFunction (f : ℕ) : Type 0 where
  pub first : 1 ≤ f
  pub last : f ≤ most_functions

-- the root of function f
abbrev pub root_of : Roots → ℕ → ℕ
root_of roots f = slice_index roots (f - 1)
