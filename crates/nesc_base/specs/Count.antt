-- How the counts of the outside rise: those of calls, of failures, and clocks.
use Rattle.std.specs.Prelude.{ℕ, ◌+◌, min}

-- a count stands still here, at 2^64 - 1
abbrev pub count_end : ℕ
count_end = 18446744073709551615

-- one more
abbrev pub risen : ℕ → ℕ
risen n = min (n + 1) count_end
