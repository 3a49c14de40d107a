-- The list of a slot, which says where the slot's blocks belong.
use Rattle.std.specs.Prelude.{◌≡◌, ℕ, ◌+◌, ◌*◌, ◌<◌, ◌≤◌, List, ◌++◌, length, take, drop, slice_get, Some}
use Rattle.std.specs.List.{AllByRecursion}
use Rattle.nesc_base.specs.Block.{block_size}
use Rattle.nesc_base.specs.declared.block.Block.{Block}
use Rattle.nesc_base.specs.declared.geometry.Geometry.{Geometry}
use Rattle.nesc_base.specs.Geometry.{list_blocks, rounded_up, slot_room, table_at, total}
use Rattle.slot_layout.specs.Bytes.{block_of_bytes, four_bytes, padded, spelled}

-- places that a slot may have blocks for: they rise strictly, and each lies behind the slots and in the image
pub record AreTargets (geometry : Geometry) (targets : List ℕ) : Type 0 where
  pub room : length targets ≤ slot_room geometry
  pub rising : (i j a b : ℕ) → i < j → slice_get targets i ≡ Some a → slice_get targets j ≡ Some b → a < b
  pub from : AllByRecursion (λ at. table_at geometry ≤ at) targets
  pub below : AllByRecursion (λ at. at < total geometry) targets

-- the number of the targets, and then each of them
abbrev pub list_bytes : List ℕ → List ℕ
list_bytes targets = four_bytes (length targets) ++ spelled four_bytes targets

-- the blocks begin with the list of these targets; what stands behind it is not looked at
pub record IsListOf (geometry : Geometry) (blocks : List Block) (targets : List ℕ) : Type 0 where
  pub count : length blocks ≡ list_blocks geometry
  pub good : AreTargets geometry targets
  pub spelling : take (4 + 4 * length targets) (spelled (λ block. block.0) blocks) ≡ list_bytes targets

-- block b of the list, with zeros behind the last target
unfoldable pub list_block : List ℕ → ℕ → Block
list_block targets b =
    block_of_bytes (padded block_size (take block_size (drop (block_size * b) (list_bytes targets))))

-- how many blocks the list of so many targets needs
abbrev pub blocks_needed : ℕ → ℕ
blocks_needed count = rounded_up (4 + 4 * count) block_size

-- the first of these blocks, as many as it needs, are the list of these targets
pub record BeginsWithList (geometry : Geometry) (targets : List ℕ) (blocks : List Block) : Type 0 where
  pub count : length blocks ≡ list_blocks geometry
  pub each : (b : ℕ) → b < blocks_needed (length targets) → slice_get blocks b ≡ Some (list_block targets b)
