-- How what a block holds is spelled. Numbers stand with their lowest byte first.
use Rattle.std.specs.Prelude.{ℕ, ◌-◌, List, [], ◌∷◌, ◌++◌, length, replicate}
use Rattle.byteorder.specs.Endian.{little_bytes}
use Rattle.nesc_base.specs.declared.block.Block.{Block}

-- a number in two bytes and in four
abbrev pub two_bytes : ℕ → List ℕ
two_bytes n = little_bytes 2 n

abbrev pub four_bytes : ℕ → List ℕ
four_bytes n = little_bytes 4 n

-- the bytes, and zeros behind them up to so many in all
abbrev pub padded : ℕ → List ℕ → List ℕ
padded size bytes = bytes ++ replicate (size - length bytes) 0

-- what each item is spelled as, one behind the other
abbrev pub spelled : {X : Type 0} → (X → List ℕ) → List X → List ℕ
spelled spell [] = []
spelled spell (x ∷ xs) = spell x ++ spelled spell xs

-- the block that has these bytes
abbrev pub block_of_bytes : List ℕ → Block
block_of_bytes bytes = record { 0 = bytes }
