-- How a change is staged, piece by piece.
use Rattle.std.specs.Prelude.{◌≡◌, ℕ, ◌+◌, ◌-◌, ◌*◌, ◌/◌, ◌<◌, ◌≤◌, Bool, true}
use Rattle.std.specs.Prelude.{List, length, drop, take, Some, slice_get, slice_set}
use Rattle.std.specs.FinMap.{get}
use Rattle.nesc_base.specs.declared.block.Block.{Block}
use Rattle.nesc_base.specs.declared.geometry.Geometry.{Geometry}
use Rattle.nesc_base.specs.Files.{File, Files}
use Rattle.nesc_base.specs.Geometry.{area_from, block_owners, map_at, map_blocks, table_at, total}
use Rattle.nesc_base.specs.Places.{Owns, Places}
use Rattle.image_layout.specs.Owners.{owner_block}
use Rattle.image_layout.specs.Table.{IsTable}
use Rattle.slot_layout.specs.Slots.{block_at}
use Rattle.host_journal.specs.Journal.{Journal}
use Rattle.host_journal.specs.Staged.{Staged, now_of}
use Rattle.file_layer.specs.Knowing.{Knows}
use Rattle.file_layer.specs.Layer.{Layer, owners_of}

-- map block b is marked
abbrev pub IsMarked : List Bool → ℕ → Type 0
IsMarked marks b = slice_get marks b ≡ Some true

-- with the map block marked that has the owner of the data block at a place
abbrev pub marking : Geometry → List Bool → ℕ → List Bool
marking geometry marks at = slice_set marks ((at - area_from geometry) / block_owners) true

-- the block of the map that says these owners
abbrev pub map_block : Layer → ℕ → Block
map_block files b = owner_block (take block_owners (drop (block_owners * b) (owners_of files)))

-- each map block that is marked is staged, and nothing else
pub record StagesMap (files : Layer) (marks : List Bool) (old new : Journal) : Type 0 where
  pub counted : new.count ≡ old.count
  pub marked : (b : ℕ) → b < map_blocks files.geometry → IsMarked marks b
      → get new.staged (map_at files.geometry + b) ≡ Some (map_block files b)
  pub others :
      (at : ℕ) → ((b : ℕ) → b < map_blocks files.geometry → IsMarked marks b → ¬ (at ≡ map_at files.geometry + b)) →
      get new.staged at ≡ get old.staged at

-- What is left out of a file while it changes: its blocks from one on up to another do not show what they hold yet.
pub record Left : Type 0 where
  pub file : ℕ
  pub from : ℕ
  pub to : ℕ

abbrev pub IsLeft : Left → ℕ → ℕ → Type 0
IsLeft left n v = (n ≡ left.file) × (left.from ≤ v) × (v < left.to)

-- In the middle of a change: the blocks show the files in memory, but for the map blocks that are marked, and for what
-- the blocks hold that are left.
pub record ShowsBut (marks : List Bool) (left : Left) (files : Layer) (staged : Staged) (kept : List Block)
    (set : Files) (places : Places) : Type 0 where
  pub whole : total files.geometry ≤ length kept
  pub table : IsTable (block_at (now_of staged kept) (table_at files.geometry)) files.table
  pub owned : (b : ℕ) → b < map_blocks files.geometry → ¬ IsMarked marks b
      → block_at (now_of staged kept) (map_at files.geometry + b) ≡ map_block files b
  pub knows : Knows files set places
  pub stands : (n v at : ℕ) (file : File) → ¬ IsLeft left n v → get set n ≡ Some file → Owns places n v at
      → get file.body v ≡ slice_get (now_of staged kept) at
