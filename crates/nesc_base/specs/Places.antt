-- Where the blocks that files hold stand on a disk.
use Rattle.std.specs.Prelude.{◌≡◌, ℕ, ◌+◌, List, Option, Some, slice_get}
use Rattle.std.specs.FinMap.{FinMap, get}
use Rattle.std.specs.Option.{option_and_then}
use Rattle.std.specs.Ordering.{nat_cmp}
use Rattle.nesc_base.specs.declared.numbers.FileNo.{FileNo}

-- where the blocks that one file holds stand, by where they stand in the file
abbrev pub HeldAt : Type 0
HeldAt = FinMap nat_cmp ℕ

-- so it is for each file, by its number
abbrev pub Places : Type 0
Places = FinMap nat_cmp HeldAt

-- where block v of file n stands, if the file holds it
abbrev pub place_of : Places → ℕ → ℕ → Option ℕ
place_of places n v = option_and_then (λ (held : HeldAt). get held v) (get places n)

-- block v of file n owns this place
abbrev pub Owns : Places → ℕ → ℕ → ℕ → Type 0
Owns places n v at = place_of places n v ≡ Some at

-- no block owns it
abbrev pub IsFree : Places → ℕ → Type 0
IsFree places at = (n v : ℕ) → ¬ Owns places n v at

-- no two blocks own one place
abbrev pub AreApart : Places → Type 0
AreApart places = (m v n w at : ℕ) → Owns places m v at → Owns places n w at → (m ≡ n) × (v ≡ w)

-- who holds a place: a file, and which of its blocks stands there
abbrev pub Owner : Type 0
Owner = FileNo × ℕ

-- where the places from one on have these owners, or none where they are free, block v of file n stands at this one
abbrev pub IsOwned : ℕ → List (Option Owner) → ℕ → ℕ → ℕ → Type 0
IsOwned from owners n v at =
    (k : ℕ) × (owner : Owner) × (slice_get owners k ≡ Some (Some owner)) × (owner.0.0 ≡ n)
    × (owner.1 ≡ v) × (at ≡ from + k)
