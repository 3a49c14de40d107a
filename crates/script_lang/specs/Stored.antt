-- How the blocks that commands and requests write are kept: all of them in one list.
use Rattle.std.specs.Prelude.{◌≡◌, ℕ, ◌+◌, ◌<◌, ◌≤◌, List, ◌++◌, map, take, drop, slice_index_or}
use Rattle.nesc_base.specs.Block.{zero_block}
use Rattle.nesc_base.specs.BlockText.{repeated}
use Rattle.nesc_base.specs.Blocks.{most_in_request}
use Rattle.nesc_base.specs.declared.block.Block.{Block}
use Rattle.script_lang.specs.declared.store.Kept.{Kept}
use Rattle.script_lang.specs.declared.store.Kept.TheVariants.{Repeats, Full}
use Rattle.script_lang.specs.declared.store.StoredRun.{StoredRun}

-- the list grew at its end, or stayed
pub record Grows (old new : List Block) : Type 0 where
  pub more : List Block
  pub result : new ≡ old ++ more

-- the block that is kept so, beside the blocks that are kept in full
abbrev pub kept_block : List Block → Kept → Block
kept_block full (Repeats bytes) = repeated bytes
kept_block full (Full i) = slice_index_or full i zero_block

abbrev pub kept_blocks : List Block → List Kept → List Block
kept_blocks full kept = map (kept_block full) kept

-- a block that is kept in full is one of so many
abbrev pub IsKeptAmong : ℕ → Kept → Type 0
IsKeptAmong count (Repeats bytes) = Unit {0}
IsKeptAmong count (Full i) = i < count

-- the blocks of a run
abbrev pub blocks_at : List Block → StoredRun → List Block
blocks_at blocks run = take run.count (drop run.first blocks)

-- all of its blocks are there, as many as one command may have
pub record IsStored (count : ℕ) (run : StoredRun) : Type 0 where
  pub some : 1 ≤ run.count
  pub few : run.count ≤ most_in_request
  pub inside : run.first + run.count ≤ count
