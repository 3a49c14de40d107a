-- What a source says of the bytes that it gives.
use Rattle.std.specs.Prelude.{◌≡◌, ℕ, ◌≤◌, List, [], length, take, drop, Option, Some, None}

-- the first n bytes that were left stand at the front of the buffer, and n is 0 only at the end
pub record FillsFront (n : ℕ) (buffer bytes : List ℕ) (new : Option (List ℕ)) : Type 0 where
  pub enough : n ≤ length bytes
  pub front : take n buffer ≡ take n bytes
  pub rest : new ≡ Some (drop n bytes)
  pub end : n ≡ 0 → bytes ≡ []

-- so it is, where the source tells what is left
abbrev pub GivesFirst : ℕ → List ℕ → Option (List ℕ) → Option (List ℕ) → Type 0
GivesFirst n buffer None new = Unit {0}
GivesFirst n buffer (Some bytes) new = FillsFront n buffer bytes new
