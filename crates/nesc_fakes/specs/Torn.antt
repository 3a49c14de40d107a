-- What stands where a stop has torn a block: bytes that a generator draws.
use Rattle.std.specs.Prelude.{ℕ, zero, suc, ◌*◌, ◌/◌, ◌%◌, ◌^◌}
use Rattle.std.specs.Int.{w64, to_le_bytes}
use Rattle.std.specs.Int.Bits.{bit_xor}
use Rattle.nesc_base.specs.declared.block.Block.{Block}
use Rattle.nesc_base.specs.BlockText.{repeated}

-- the exclusive or of a number of 64 bits and the same number shifted, by so many bits to the left or to the right
abbrev pub with_left : ℕ → ℕ → ℕ
with_left by x = bit_xor x (x * 2 ^ by % 2 ^ 64)

abbrev pub with_right : ℕ → ℕ → ℕ
with_right by x = bit_xor x (x / 2 ^ by)

-- the number that is drawn after this one
abbrev pub drawn : ℕ → ℕ
drawn x = with_left 17 (with_right 7 (with_left 13 x))

-- the number after so many draws
abbrev pub after_draws : ℕ → ℕ → ℕ
after_draws zero x = x
after_draws (suc n) x = drawn (after_draws n x)

-- the block that has the eight bytes of a number, the low one first, over and over
abbrev pub torn_block : ℕ → Block
torn_block x = repeated (to_le_bytes w64 x)

-- the block at a place that is torn: there is a draw for each place up to it
abbrev pub torn_at : ℕ → ℕ → Block
torn_at pick at = torn_block (drawn (after_draws at pick))
