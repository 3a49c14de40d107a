-- Bits in words of 64.
use Rattle.std.specs.Prelude.{◌≡◌, ℕ, ◌*◌, ◌/◌, ◌%◌, ◌<◌, ◌≤◌, ◌^◌, ◌==◌, Bool, true}
use Rattle.std.specs.Prelude.{false, List, length, map, Some, slice_get, slice_index}
use Rattle.std.specs.List.{range_with_len}
use Rattle.std.specs.Int.{bit_at as bit_of_word}

-- Bit k of the words is on: the lowest bit of a word comes first.
abbrev pub bit_at : List ℕ → ℕ → Bool
bit_at words k = bit_of_word (slice_index words (k / 64)) (k % 64) == 1

-- the first so many bits, lowest first
abbrev pub bits_of : List ℕ → ℕ → List Bool
bits_of words len = map (bit_at words) (range_with_len 0 len)

-- There are words for all bits, and so few that a u32 counts what they hold. No bit behind the last is set, and none
-- before the hint.
pub record AreBits (words : List ℕ) (len hint : ℕ) : Type 0 where
  pub enough : len ≤ 64 * length words
  pub fits : 64 * length words < 2 ^ 32
  pub behind : (k : ℕ) → len ≤ k → bit_at words k ≡ false
  pub before : (k : ℕ) → k < 64 * hint → bit_at words k ≡ false

-- bit k is set, and none below it
pub record IsLowestSet (bits : List Bool) (k : ℕ) : Type 0 where
  pub set : slice_get bits k ≡ Some true
  pub lowest : (j : ℕ) → j < k → slice_get bits j ≡ Some false

-- no bit is set
abbrev pub AreClear : List Bool → Type 0
AreClear bits = (k : ℕ) → ¬ (slice_get bits k ≡ Some true)
