-- What a block is: 1024 bytes.
use Rattle.std.specs.Prelude.{ℕ, replicate}
use Rattle.nesc_base.specs.declared.block.Block.{Block}

-- how many bytes a block has
abbrev pub block_size : ℕ
block_size = 1024

-- the block of zeros
unfoldable pub zero_block : Block
zero_block = record { 0 = replicate block_size 0 }
