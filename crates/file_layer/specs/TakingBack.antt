-- How a held block is taken back.
use Rattle.std.specs.Prelude.{◌≡◌, ◌⊎◌, ℕ, ◌+◌, ◌/◌, ◌≤◌, Bool, List, None, Option, Some, slice_get}
use Rattle.std.specs.FinMap.{get}
use Rattle.nesc_base.specs.Geometry.{block_owners}
use Rattle.nesc_base.specs.Places.{Owner}
use Rattle.block_map.specs.Map.{StandsAt, with_owner}
use Rattle.host_journal.specs.Journal.{Journal, forgetting}
use Rattle.file_layer.specs.Layer.{Layer}
use Rattle.file_layer.specs.Staging.{IsMarked, marking}

-- Block v of file n was held, and is not any more: its data block has no owner, what was staged for it is forgotten,
-- and the map block that has its owner is marked.
pub record TakesBack (n v : ℕ) (old : Layer) (before : Journal) (marks : List Bool) (new : Layer) (after : Journal)
    (marked : List Bool) : Type 0 where
  pub at : ℕ
  pub stood : StandsAt old.map n v at
  pub taken : new ≡ record old { map = with_owner old.map at None }
  pub forgotten : after ≡ forgetting before at
  pub touched : marked ≡ marking old.geometry marks at

-- Data block k was given back: it had a block of file n at or past the end, and is free now, and the map block that has
-- its owner is marked.
pub record IsGiven (n end : ℕ) (old new : List (Option Owner)) (marks : List Bool) (k : ℕ) : Type 0 where
  pub owner : Owner
  pub had : slice_get old k ≡ Some (Some owner)
  pub file : owner.0.0 ≡ n
  pub past : end ≤ owner.1
  pub free : slice_get new k ≡ Some None
  pub marked : IsMarked marks (k / block_owners)

-- Data blocks of file n at or past the end were given back, what was staged for them is forgotten, and their map blocks
-- are marked. All else is as it was.
pub record GivesBack (n end : ℕ) (old : Layer) (before : Journal) (new : Layer) (after : Journal)
    (marks : List Bool) : Type 0 where
  pub same_geometry : new.geometry ≡ old.geometry
  pub same_table : new.table ≡ old.table
  pub same_from : new.map.from ≡ old.map.from
  pub each : (k : ℕ) → (slice_get new.map.owners k ≡ slice_get old.map.owners k)
      ⊎ IsGiven n end old.map.owners new.map.owners marks k
  pub staged : (at : ℕ) → (get after.staged at ≡ get before.staged at)
      ⊎ ((k : ℕ) × (at ≡ old.map.from + k) × IsGiven n end old.map.owners new.map.owners marks k)
  pub forgot : (k : ℕ) → IsGiven n end old.map.owners new.map.owners marks k
      → get after.staged (old.map.from + k) ≡ None
  pub marked : (b : ℕ) → IsMarked marks b
      → (k : ℕ) × (k / block_owners ≡ b) × IsGiven n end old.map.owners new.map.owners marks k
  pub counted : after.count ≡ before.count
  pub same_start : after.started ≡ before.started
  pub same_division : after.geometry ≡ before.geometry
