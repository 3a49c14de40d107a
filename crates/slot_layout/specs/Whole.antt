-- That blocks have all their bytes. Every block of a program does, but a clause on a list of blocks does not know it.
use Rattle.std.specs.Prelude.{◌≡◌, ℕ, ◌<◌, ◌≤◌, List, length, slice_index}
use Rattle.std.specs.List.{slice_index_or}
use Rattle.nesc_base.specs.Block.{block_size}
use Rattle.nesc_base.specs.declared.block.Block.{Block}

-- how many numbers of four bytes a block has
abbrev pub numbers_in_block : ℕ
numbers_in_block = 256

pub record IsWhole (block : Block) : Type 0 where
  pub size : length block.0 ≡ block_size
  pub bytes : (k : ℕ) → slice_index block.0 k < 256

-- the first n blocks do
pub record AreWhole (blocks : List Block) (n : ℕ) : Type 0 where
  pub some : n ≤ length blocks
  pub each : (b : ℕ) (other : Block) → b < n → IsWhole (slice_index_or blocks b other)
