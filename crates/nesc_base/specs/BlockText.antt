-- A block as text, and a text as a block.
use Rattle.std.specs.Prelude.{ℕ, zero, suc, ◌==◌, if◌then◌else◌, List, [], ◌++◌}
use Rattle.std.specs.Prelude.{length, take, codes, Option, Some, None, option_map}
use Rattle.std.specs.Result.{result_ok}
use Rattle.std.specs.Str.{bytes_eq}
use Rattle.hex.specs.Hex.{encode_lower, decode_of}
use Rattle.nesc_base.specs.declared.block.Block.{Block}
use Rattle.nesc_base.specs.Block.{zero_block}

-- how many bytes a block may repeat, and how many times it has them then
abbrev pub period_size : ℕ
period_size = 8

abbrev pub periods_in_block : ℕ
periods_in_block = 128

-- how many digits the text of those bytes has, and how many that of all bytes
abbrev pub period_digits : ℕ
period_digits = 16

abbrev pub whole_digits : ℕ
whole_digits = 2048

-- the bytes, so many times one behind the other
abbrev pub times : ℕ → List ℕ → List ℕ
times zero bytes = []
times (suc n) bytes = bytes ++ times n bytes

-- the block that has eight bytes 128 times
unfoldable pub repeated : List ℕ → Block
repeated bytes = record { 0 = times periods_in_block bytes }

-- the eight bytes that a block repeats, if it does
abbrev pub period_of : Block → Option (List ℕ)
period_of block =
    if bytes_eq block.0 (repeated (take period_size block.0)).0 then Some (take period_size block.0) else None

-- `z`, or the 16 digits of eight bytes that repeat, or the 2048 digits of all bytes: the shortest that is right
unfoldable pub block_text : Block → List ℕ
block_text block =
    if bytes_eq block.0 zero_block.0 then codes "z"
    else if bytes_eq block.0 (repeated (take period_size block.0)).0 then encode_lower (take period_size block.0)
    else encode_lower block.0

-- the block whose text it is, in digits of either case; no other text is a block's
unfoldable pub block_of_text : List ℕ → Option Block
block_of_text text =
    if bytes_eq text (codes "z") then Some zero_block
    else if length text == period_digits then option_map repeated (result_ok (decode_of text))
    else if length text == whole_digits then option_map (λ bytes. record { 0 = bytes }) (result_ok (decode_of text))
    else None
