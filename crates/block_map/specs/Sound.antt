-- What a map of data blocks keeps in memory, each part of which says the same.
use Rattle.std.specs.Prelude.{◌≡◌, ◌↔◌, ℕ, ◌+◌, ◌<◌, ◌≤◌, ◌^◌, Bool, List}
use Rattle.std.specs.Prelude.{length, map, Option, Some, is_none, slice_get}
use Rattle.nesc_base.specs.Files.{most_files}
use Rattle.nesc_base.specs.Geometry.{most_blocks}
use Rattle.nesc_base.specs.Places.{IsOwned, Owner}
use Rattle.block_map.specs.declared.held_runs.HeldRun.{HeldRun}
use Rattle.block_map.specs.Map.{MayHold, count_free, count_held}
use Rattle.block_map.specs.Runs.{AreHeldRuns, IsAmong, blocks_in}

-- The runs have the blocks that the owners say, a bit is set for each data block that is free, the counts are right,
-- and there is memory for a run of each block.
pub record IsSound (from : ℕ) (owners : List (Option Owner)) (runs : List HeldRun) (room : ℕ) (bits : List Bool)
    (free : ℕ) (held : List ℕ) : Type 0 where
  pub fits : from + length owners < 2 ^ 32
  pub few : length owners ≤ most_blocks
  pub may : (k : ℕ) (owner : Owner) → slice_get owners k ≡ Some (Some owner) → MayHold owner.0.0 owner.1
  pub rising : AreHeldRuns runs
  pub same : (n v at : ℕ) → IsAmong runs n v at ↔ IsOwned from owners n v at
  pub count : blocks_in runs + free ≡ length owners
  pub enough : length owners ≡ room
  pub marked : bits ≡ map is_none owners
  pub counted : free ≡ count_free owners
  pub each : length held ≡ most_files + 1
  pub shares : (n : ℕ) → n ≤ most_files → slice_get held n ≡ Some (count_held n owners)
