-- What number a text writes.
use Rattle.std.specs.Prelude.{ℕ, ◌^◌, ◌&&◌, nat_le, nat_lt, if◌then◌else◌, List, length, Option, Some, None}
use Rattle.std.specs.Str.{all_ascii_digits}
use Rattle.std.specs.Str.Parse.{digits_value}

-- the value of 1 to 20 decimal digits, where it is below 2^64; no other text writes a number
unfoldable pub number_of : List ℕ → Option ℕ
number_of text =
    if nat_le 1 (length text) && nat_le (length text) 20 && all_ascii_digits text
    && nat_lt (digits_value 10 text) (2 ^ 64)
    then Some (digits_value 10 text)
    else None
