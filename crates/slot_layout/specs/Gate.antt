-- The gate of a slot, which says whether the slot counts.
use Rattle.std.specs.Prelude.{ℕ, Bool, replicate}
use Rattle.std.specs.Str.{bytes_eq}
use Rattle.nesc_base.specs.Block.{block_size}
use Rattle.nesc_base.specs.declared.block.Block.{Block}
use Rattle.slot_layout.specs.Bytes.{block_of_bytes}

-- what an open gate has in all its bytes: 0xA5
abbrev pub open_byte : ℕ
open_byte = 165

unfoldable pub open_gate : Block
open_gate = block_of_bytes (replicate block_size open_byte)

-- any other block is a closed gate
unfoldable pub is_open : Block → Bool
is_open block = bytes_eq block.0 open_gate.0
