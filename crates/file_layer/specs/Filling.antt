-- How blocks of a file come to be held, one after another, while a change is made.
use Rattle.std.specs.Prelude.{◌≡◌, ℕ, ◌+◌, ◌-◌, ◌/◌, ◌≤◌, Bool, List, length, Some, slice_get}
use Rattle.nesc_base.specs.declared.block.Block.{Block}
use Rattle.nesc_base.specs.declared.geometry.Geometry.{Geometry}
use Rattle.nesc_base.specs.Files.{Files}
use Rattle.nesc_base.specs.Geometry.{area_from, block_owners, most_map_blocks}
use Rattle.nesc_base.specs.Places.{Owner, Places}
use Rattle.block_map.specs.Map.{BlockMap, count_free}
use Rattle.file_model.specs.Files.{LeadsTo, puts_from}
use Rattle.host_journal.specs.Staged.{Staged}
use Rattle.file_layer.specs.Changing.{AreFilled, ChangesOwner}
use Rattle.file_layer.specs.Layer.{IsLayer, Layer, area_of}
use Rattle.file_layer.specs.Showing.{Shows}
use Rattle.file_layer.specs.Staging.{IsMarked, Left, ShowsBut}

-- nothing of any file is left out
abbrev pub nothing_left : Left
nothing_left = record { file = 0; from = 0; to = 0 }

-- the blocks of a file from one on up to another are left out
abbrev pub left_of : ℕ → ℕ → ℕ → Left
left_of n from to = record { file = n; from = from; to = to }

-- a data block whose owner changes
abbrev pub IsGiven : Geometry → BlockMap → BlockMap → ℕ → Type 0
IsGiven geometry old new at = (area_from geometry ≤ at) × ChangesOwner old new at

-- In memory so many data blocks that were free have owners now, and the map blocks that have these owners are marked.
pub record Grows (count : ℕ) (marks : List Bool) (old new : Layer) : Type 0 where
  pub layer : IsLayer new
  pub geometry : new.geometry ≡ old.geometry
  pub table : new.table ≡ old.table
  pub stay : (k : ℕ) (owner : Owner) → slice_get old.map.owners k ≡ Some (Some owner)
      → slice_get new.map.owners k ≡ Some (Some owner)
  pub fewer : count_free new.map.owners + count ≡ count_free old.map.owners
  pub counted : length marks ≡ most_map_blocks
  pub marked : (b : ℕ) → IsMarked marks b
      → (at : ℕ) × IsGiven old.geometry old.map new.map at × (b ≡ (at - area_from old.geometry) / block_owners)

-- Whatever the blocks show before, behind it these blocks of the file are held too, and the blocks show that but for
-- what is left.
abbrev pub FillsBut : ℕ → List ℕ → List Bool → Left → Layer → Staged → Layer → Staged → Type 0
FillsBut n blocks marks left old before new after =
    (kept : List Block) (set : Files) (places : Places) → Shows old before kept set places
    → (others : Files) × (elsewhere : Places) × AreFilled (area_of old.geometry) n blocks set places others elsewhere
    × ShowsBut marks left new after kept others elsewhere

-- Whatever the blocks show but for these blocks of the file, they show behind it with the blocks put, and nothing left
-- out.
abbrev pub PutsBut : List Bool → ℕ → ℕ → List Block → Layer → Staged → Staged → Type 0
PutsBut marks n v blocks files before after =
    (kept : List Block) (set : Files) (places : Places) →
    ShowsBut marks (left_of n v (v + length blocks)) files before kept set places
    → (others : Files) × LeadsTo set (puts_from n v blocks) others
    × ShowsBut marks (left_of n (v + length blocks) (v + length blocks)) files after kept others places
