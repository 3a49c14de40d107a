-- A place in a file, and blocks from there on, as commands and requests have them.
use Rattle.std.specs.Prelude.{ℕ, ◌&&◌, nat_le, if◌then◌else◌, List, [], ◌∷◌, length, replicate, Option, Some, None}
use Rattle.nesc_base.specs.Block.{zero_block}
use Rattle.nesc_base.specs.BlockText.{block_of_text}
use Rattle.nesc_base.specs.Blocks.{most_in_request}
use Rattle.nesc_base.specs.declared.block.Block.{Block}
use Rattle.script_lang.specs.Numbers.{block_number_of, count_of}
use Rattle.script_lang.specs.Words.{each, ◌>>=◌}

-- BLOCK.., 1 to 64 blocks
abbrev pub blocks_of : List (List ℕ) → Option (List Block)
blocks_of texts =
    if nat_le 1 (length texts) && nat_le (length texts) most_in_request then each block_of_text texts else None

-- V BLOCK.., the blocks to write
abbrev pub written_run_of : List (List ℕ) → Option (ℕ × List Block)
written_run_of (v ∷ texts) = do
  v ← block_number_of v
  blocks ← blocks_of texts
  Some (v, blocks)
written_run_of words = None

-- V N, how many blocks are asked for
abbrev pub asked_run_of : List (List ℕ) → Option (ℕ × ℕ)
asked_run_of (v ∷ n ∷ []) = do
  v ← block_number_of v
  n ← count_of n
  Some (v, n)
asked_run_of words = None

-- a buffer for so many blocks, which has zeros at first
abbrev pub buffer_for : ℕ → List Block
buffer_for n = replicate n zero_block
