-- Which function is next, by a bit for each.
use Rattle.std.specs.Prelude.{◌≡◌, ℕ, ◌-◌, ◌<◌, ◌≤◌, ◌==◌, Bool, true, false, List, length, Option}
use Rattle.std.specs.Int.{bit_at}
use Rattle.std.specs.List.{find}
use Rattle.plain_machine.specs.Functions.{Function, in_turn, is_runnable}

-- the bit of a function is set: the lowest bit is that of function 1
abbrev pub is_set : ℕ → ℕ → Bool
is_set bits f = bit_at bits (f - 1) == 1

-- the first function whose bit is set, from the one after the last on and around to the last
abbrev pub next_set : ℕ → ℕ → ℕ → Option ℕ
next_set bits last count = find (is_set bits) (in_turn last count)

-- of these functions the bits are set of just those that are runnable
abbrev pub AreRunnable : ℕ → List Function → Type 0
AreRunnable bits functions = (f : ℕ) → 1 ≤ f → f ≤ length functions → is_set bits f ≡ is_runnable functions f

-- there is such a function among so many, and its bit is set
pub record IsSetAmong (bits count f : ℕ) : Type 0 where
  pub first : 1 ≤ f
  pub last : f ≤ count
  pub set : is_set bits f ≡ true

-- none of so many functions has its bit set
abbrev pub IsNoneSet : ℕ → ℕ → Type 0
IsNoneSet bits count = (f : ℕ) → 1 ≤ f → f ≤ count → is_set bits f ≡ false

-- no function after one has its bit set
abbrev pub IsNoneAfter : ℕ → ℕ → Type 0
IsNoneAfter last bits = (f : ℕ) → last < f → is_set bits f ≡ false

-- a function is the first after another that has its bit set
pub record IsFirstAfter (last bits f : ℕ) : Type 0 where
  pub after : last < f
  pub set : is_set bits f ≡ true
  pub first : (g : ℕ) → last < g → g < f → is_set bits g ≡ false
