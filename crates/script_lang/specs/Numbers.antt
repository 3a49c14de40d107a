-- Numbers in the texts: 1 to 10 decimal digits each, with leading zeros or without.
use Rattle.std.specs.Prelude.{ℕ, ◌-◌, nat_le, if◌then◌else◌, List, length, Option, Some, None}
use Rattle.text_kit.specs.Number.{number_of}
use Rattle.nesc_base.specs.Blocks.{most_in_request}
use Rattle.nesc_base.specs.Files.{longest_file}
use Rattle.nesc_base.specs.declared.numbers.FnNo.{FnNo}
use Rattle.script_lang.specs.Words.{◌>>=◌}

-- how many digits a number has at most
abbrev pub most_digits : ℕ
most_digits = 10

-- the number, if it is at most this one
abbrev pub up_to : ℕ → ℕ → Option ℕ
up_to most n = if nat_le n most then Some n else None

-- the number that a text writes, if it has no more digits and is no greater than it may be
abbrev pub number_to : ℕ → List ℕ → Option ℕ
number_to most text = if nat_le (length text) most_digits then (number_of text >>= up_to most) else None

-- so it is from 1 on
abbrev pub from_one : ℕ → Option ℕ
from_one n = if nat_le 1 n then Some n else None

abbrev pub number_from_one : ℕ → List ℕ → Option ℕ
number_from_one most text = number_to most text >>= from_one

-- LENGTH, how many blocks a file is to have
abbrev pub length_of : List ℕ → Option ℕ
length_of text = number_to longest_file text

-- V, a block of a file
abbrev pub block_number_of : List ℕ → Option ℕ
block_number_of text = number_to (longest_file - 1) text

-- N, how many blocks are asked for
abbrev pub count_of : List ℕ → Option ℕ
count_of text = number_from_one most_in_request text

-- F, one of so many functions
abbrev pub function_of : ℕ → List ℕ → Option FnNo
function_of functions text = number_from_one functions text >>= λ f. Some (record { 0 = f })

-- how often a tick is taken: any number of so many digits but 0
abbrev pub times_of : List ℕ → Option ℕ
times_of text = number_from_one 9999999999 text
