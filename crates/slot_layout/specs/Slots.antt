-- The slots of the journal, and what an image stands for with them laid over.
use Rattle.std.specs.Prelude.{◌≡◌, ◌⊎◌, ℕ, zero, suc, ◌+◌, ◌<◌, ◌≤◌, true, false, List}
use Rattle.std.specs.Prelude.{[], ◌∷◌, take, drop, slice_get, slice_set, unwrap_or}
use Rattle.nesc_base.specs.declared.block.Block.{Block}
use Rattle.nesc_base.specs.declared.geometry.Geometry.{Geometry}
use Rattle.nesc_base.specs.Block.{zero_block}
use Rattle.nesc_base.specs.Geometry.{list_blocks, slot_at, slot_room, table_at, total}
use Rattle.slot_layout.specs.Gate.{is_open}
use Rattle.slot_layout.specs.Targets.{IsListOf}

-- the block at a place of an image that has it
abbrev pub block_at : List Block → ℕ → Block
block_at image at = unwrap_or (slice_get image at) zero_block

-- so many blocks of an image from a place on
abbrev pub blocks_from : List Block → ℕ → ℕ → List Block
blocks_from image at count = take count (drop at image)

-- the parts of a slot: its gate, its list, and its blocks
abbrev pub gate : Geometry → List Block → ℕ → Block
gate geometry image k = block_at image (slot_at geometry k)

abbrev pub list_at : Geometry → ℕ → ℕ
list_at geometry k = slot_at geometry k + 1

abbrev pub list_of : Geometry → List Block → ℕ → List Block
list_of geometry image k = blocks_from image (list_at geometry k) (list_blocks geometry)

abbrev pub slot_data : Geometry → List Block → ℕ → List Block
slot_data geometry image k = blocks_from image (list_at geometry k + list_blocks geometry) (slot_room geometry)

-- each block is put where its target says
abbrev pub laid_over : List ℕ → List Block → List Block → List Block
laid_over [] blocks image = image
laid_over (at ∷ targets) [] image = image
laid_over (at ∷ targets) (block ∷ blocks) image = laid_over targets blocks (slice_set image at block)

-- slots 1 to n have their gates open
abbrev pub AreOpen : Geometry → List Block → ℕ → Type 0
AreOpen geometry image n = (k : ℕ) → 1 ≤ k → k ≤ n → is_open (gate geometry image k) ≡ true

-- exactly these are to be replayed: the gate behind the last of them is closed, or there are no more than four
pub record AreReplayed (geometry : Geometry) (image : List Block) (n : ℕ) : Type 0 where
  pub most : n ≤ 4
  pub opened : AreOpen geometry image n
  pub closed : (n ≡ 4) ⊎ (is_open (gate geometry image (n + 1)) ≡ false)

-- with the slots from 1 to n laid over, the later ones over the earlier ones, image is laid
abbrev pub LaidOver : Geometry → List Block → ℕ → List Block → Type 0
LaidOver geometry image zero laid = laid ≡ image
LaidOver geometry image (suc n) laid =
    (before : List Block) × (targets : List ℕ) × LaidOver geometry image n before
    × IsListOf geometry (list_of geometry image (suc n)) targets
    × (laid ≡ laid_over targets (slot_data geometry image (suc n)) before)

-- with the slots that are to be replayed
pub record Lays (geometry : Geometry) (image laid : List Block) : Type 0 where
  pub slots : ℕ
  pub replayed : AreReplayed geometry image slots
  pub over : LaidOver geometry image slots laid

-- the first slot that is to be replayed and has no list, and the place where that would begin
pub record LacksList (geometry : Geometry) (image : List Block) (place : ℕ) : Type 0 where
  pub before : ℕ
  pub laid : List Block
  pub over : LaidOver geometry image before laid
  pub most : before < 4
  pub opened : AreOpen geometry image (before + 1)
  pub none : (targets : List ℕ) → ¬ IsListOf geometry (list_of geometry image (before + 1)) targets
  pub at : place ≡ list_at geometry (before + 1)

-- no slot is to be replayed, nor would one be if those before it were gone
abbrev pub AreClosed : Geometry → List Block → Type 0
AreClosed geometry image = (k : ℕ) → 1 ≤ k → k ≤ 4 → is_open (gate geometry image k) ≡ false

-- a block that says something apart from the slots: block 0, or one from the table on
abbrev pub IsBeside : Geometry → ℕ → Type 0
IsBeside geometry at = (at ≡ 0) ⊎ ((table_at geometry ≤ at) × (at < total geometry))

-- images that are alike there
pub record AreAlike (geometry : Geometry) (one other : List Block) : Type 0 where
  pub each : (at : ℕ) → IsBeside geometry at → slice_get other at ≡ slice_get one at

-- with its slots laid over, the image is alike to these blocks beside the slots
pub record StandsFor (geometry : Geometry) (image blocks : List Block) : Type 0 where
  pub laid : List Block
  pub lays : Lays geometry image laid
  pub alike : AreAlike geometry blocks laid
