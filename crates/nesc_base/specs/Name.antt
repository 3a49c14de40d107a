-- What a file's name is.
use Rattle.std.specs.Prelude.{ℕ, ◌==◌, ◌&&◌, ◌||◌, nat_le, if◌then◌else◌, Bool, List, length, Option, Some, None}
use Rattle.std.specs.List.{list_all}

-- a-z, 0-9, `_`, `-` or `.`
abbrev pub is_name_byte : ℕ → Bool
is_name_byte b = (nat_le 97 b && nat_le b 122) || (nat_le 48 b && nat_le b 57) || b == 95 || b == 45 || b == 46

-- how many bytes a name has at most
abbrev pub longest_name : ℕ
longest_name = 24

-- one such byte or more, as many as a name has at most
abbrev pub is_name : List ℕ → Bool
is_name bytes = nat_le 1 (length bytes) && nat_le (length bytes) longest_name && list_all is_name_byte bytes

-- the name that the bytes are, if they are one
abbrev pub name_of : List ℕ → Option (List ℕ)
name_of bytes = if is_name bytes then Some bytes else None
