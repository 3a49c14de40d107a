-- How the blocks of one request are kept.
use Rattle.std.specs.Prelude.{◌≡◌, ℕ, ◌+◌, ◌<◌, ◌≤◌, Bool, true, false, List, length}
use Rattle.std.specs.Prelude.{map, replicate, count_by, slice_get, slice_index_or, Some}
use Rattle.nesc_base.specs.declared.block.Block.{Block}
use Rattle.nesc_base.specs.declared.blocks.Form.{Form}
use Rattle.nesc_base.specs.declared.blocks.Form.TheVariants.{Repeats, Full}
use Rattle.nesc_base.specs.Block.{zero_block}
use Rattle.nesc_base.specs.BlockText.{period_size, repeated}

-- how many blocks one request, put, map or get has at most
abbrev pub most_in_request : ℕ
most_in_request = 64

-- the block that is kept in a form, with the blocks that are kept in full
abbrev pub block_in : List Block → Form → Block
block_in full (Repeats bytes) = repeated bytes
block_in full (Full i) = slice_index_or full i zero_block

abbrev pub blocks_in : List Form → List Block → List Block
blocks_in forms full = map (block_in full) forms

abbrev pub repeats : Form → Bool
repeats (Repeats bytes) = true
repeats (Full i) = false

-- how a block of zeros is kept
abbrev pub zero_form : Form
zero_form = Repeats (replicate period_size 0)

-- There is a form for each block, each that is kept in full is one of a block of its own, and the memory that was asked
-- for has room for as many blocks as one request has at most, all of them in full.
pub record AreKept (forms : List Form) (full : List Block) (form_capacity full_capacity : ℕ) : Type 0 where
  pub some : 1 ≤ length forms
  pub within : length forms ≤ most_in_request
  pub counted : count_by repeats forms + length full ≡ length forms
  pub room_for_forms : most_in_request ≤ form_capacity
  pub room_for_full : most_in_request ≤ full_capacity
  pub inside : (k i : ℕ) → slice_get forms k ≡ Some (Full i) → i < length full
  pub apart : (j k i : ℕ) → slice_get forms j ≡ Some (Full i) → slice_get forms k ≡ Some (Full i) → j ≡ k
