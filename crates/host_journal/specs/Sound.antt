-- How a journal stands in memory.
use Rattle.std.specs.Prelude.{◌≡◌, ℕ, ◌-◌, ◌≤◌, IsSome, length}
use Rattle.std.specs.FinMap.{get}
use Rattle.std.specs.List.{count_by}
use Rattle.nesc_base.specs.declared.geometry.Geometry.{Geometry}
use Rattle.nesc_base.specs.Geometry.{IsGeometry, list_blocks, slot_room, table_at, total}
use Rattle.host_journal.specs.Journal.{is_data}
use Rattle.host_journal.specs.Staged.{MayStage, targets_of}
use Rattle.host_journal.specs.Store.{Store}
use Rattle.host_journal.specs.declared.replay.Replay.{Replay}

-- there is memory for every replay of such an image
pub record IsReady (replay : Replay) : Type 0 where
  pub sizes : IsGeometry replay.geometry
  pub list : length replay.list.items ≡ list_blocks replay.geometry
  pub targets : length replay.targets.items ≡ slot_room replay.geometry
  pub sources : length replay.sources.items ≡ total replay.geometry - table_at replay.geometry

-- No more data blocks are staged than were counted, and the store has room for these and for the table and the whole
-- map.
pub record IsSound (geometry : Geometry) (store : Store) (count : ℕ) (replay : Replay) : Type 0 where
  pub same_geometry : replay.geometry ≡ geometry
  pub ready : IsReady replay
  pub within : (at : ℕ) → IsSome (get store.staged at) → MayStage geometry at
  pub few : count ≤ geometry.slack
  pub counted : count_by (is_data geometry) (targets_of store.staged) ≤ count
  pub from : store.from ≡ table_at geometry
  pub places : store.places ≡ total geometry - table_at geometry
  pub room : store.room ≡ slot_room geometry
