-- A map of data blocks as its callers see it: who owns each, and so where the blocks of a file stand.
use Rattle.std.specs.Prelude.{◌≡◌, ◌↔◌, ℕ, ◌+◌, ◌-◌, ◌^◌, ◌<◌, ◌≤◌, ◌==◌, Bool, false, List, length}
use Rattle.std.specs.Prelude.{Option, Some, None, is_none, slice_get, slice_set, replicate, refl}
use Rattle.std.specs.Coded.{Coded, code_by, coded×, coded_list, coded_option, coded_ℕ}
use Rattle.std.specs.List.{count_by}
use Rattle.nesc_base.specs.declared.geometry.Geometry.{Geometry}
use Rattle.nesc_base.specs.declared.numbers.FileNo.{FileNo}
use Rattle.nesc_base.specs.declared.runs.Run.{Run}
use Rattle.nesc_base.specs.Files.{longest_file, most_files}
use Rattle.nesc_base.specs.Geometry.{area_from}
use Rattle.nesc_base.specs.Places.{IsOwned, Owner}
use Rattle.nesc_base.specs.Runs.{AreRuns, IsIn, IsRun}

-- the place of the first data block, and who owns each data block from there on, or none where it is free
pub record BlockMap : Type 0 where
  pub from : ℕ
  pub owners : List (Option Owner)

-- how a proof keeps such a value; no bytes of an image
abbrev pub coded_owner : Coded Owner
coded_owner = coded× (code_by ℕ coded_ℕ (λ (file : FileNo). file.0) (λ n. record { 0 = n }) (λ _. refl)) coded_ℕ

abbrev pub map_code : Coded BlockMap
map_code =
    code_by (ℕ × List (Option Owner)) (coded× coded_ℕ (coded_list (coded_option coded_owner)))
    (λ map. (map.from, map.owners))
    (λ p. record { from = p.0; owners = p.1 })
    (λ _. refl)

-- every data block of such an image, each of them free
abbrev pub empty_map : Geometry → BlockMap
empty_map geometry = record { from = area_from geometry; owners = replicate geometry.blocks None }

-- Where blocks stand

-- block v of file n stands at this place
abbrev pub StandsAt : BlockMap → ℕ → ℕ → ℕ → Type 0
StandsAt map n v at = IsOwned map.from map.owners n v at

-- the file does not hold the block
abbrev pub IsUnheld : BlockMap → ℕ → ℕ → Type 0
IsUnheld map n v = (at : ℕ) → ¬ StandsAt map n v at

-- a file may hold this block
pub record MayHold (n v : ℕ) : Type 0 where
  pub numbered : 1 ≤ n
  pub among : n ≤ most_files
  pub below : v < longest_file

-- what every map is: no block stands at two places, each is one that a file may have, and places are numbers of blocks
pub record IsMap (map : BlockMap) : Type 0 where
  pub once : (n v at other : ℕ) → StandsAt map n v at → StandsAt map n v other → at ≡ other
  pub may : (n v at : ℕ) → StandsAt map n v at → MayHold n v
  pub fits : map.from + length map.owners < 2 ^ 32

-- Data blocks

-- there is a data block at this place
abbrev pub IsPlace : BlockMap → ℕ → Type 0
IsPlace map at = (map.from ≤ at) × (at < map.from + length map.owners)

-- nobody owns the data block at this place
pub record IsFreeAt (map : BlockMap) (at : ℕ) : Type 0 where
  pub place : IsPlace map at
  pub free : slice_get map.owners (at - map.from) ≡ Some None

pub record IsLowestFree (map : BlockMap) (at : ℕ) : Type 0 where
  pub free : IsFreeAt map at
  pub lowest : (other : ℕ) → other < at → ¬ IsFreeAt map other

-- no data block is free
abbrev pub IsFull : BlockMap → Type 0
IsFull map = (at : ℕ) → ¬ IsFreeAt map at

-- how many data blocks are free, and how many a file holds
abbrev pub count_free : List (Option Owner) → ℕ
count_free owners = count_by is_none owners

abbrev pub is_of : ℕ → Option Owner → Bool
is_of n None = false
is_of n (Some owner) = owner.0.0 == n

abbrev pub count_held : ℕ → List (Option Owner) → ℕ
count_held n owners = count_by (is_of n) owners

-- the data block at this place has this owner now, or none
abbrev pub with_owner : BlockMap → ℕ → Option Owner → BlockMap
with_owner map at owner = record map { owners = slice_set map.owners (at - map.from) owner }

-- each data block is free
abbrev pub cleared : BlockMap → BlockMap
cleared map = record map { owners = replicate (length map.owners) None }

-- The blocks of a file in their order

-- the file holds none of its blocks from block `from` on and below block `to`
abbrev pub HoldsNone : BlockMap → ℕ → ℕ → ℕ → Type 0
HoldsNone map n from to = (v : ℕ) → from ≤ v → v < to → IsUnheld map n v

-- and none from block `from` on
abbrev pub HoldsNoneFrom : BlockMap → ℕ → ℕ → Type 0
HoldsNoneFrom map n from = (v : ℕ) → from ≤ v → IsUnheld map n v

-- v is the first block from block `from` on that the file holds, and this is its place
pub record IsNextHeld (map : BlockMap) (n from v at : ℕ) : Type 0 where
  pub behind : from ≤ v
  pub stands : StandsAt map n v at
  pub first : HoldsNone map n from v

-- v is the last block that the file holds, and this is its place
pub record IsLastHeld (map : BlockMap) (n v at : ℕ) : Type 0 where
  pub stands : StandsAt map n v at
  pub last : HoldsNoneFrom map n (v + 1)

-- Runs

-- the blocks of the run are the file's, and it does not go on at either end
pub record IsRunOf (map : BlockMap) (n : ℕ) (run : Run) : Type 0 where
  pub is_run : IsRun run
  pub each : (v at : ℕ) → IsIn run v at → StandsAt map n v at
  pub begins : (v at : ℕ) → v + 1 ≡ run.first → at + 1 ≡ run.place → ¬ StandsAt map n v at
  pub ends : ¬ StandsAt map n (run.first + run.count) (run.place + run.count)

-- the first run of the file that has a block from block `from` on
pub record IsNextRun (map : BlockMap) (n from : ℕ) (run : Run) : Type 0 where
  pub whole : IsRunOf map n run
  pub behind : from < run.first + run.count
  pub first : HoldsNone map n from run.first

-- all runs of the file, in rising order
pub record AreRunsIn (map : BlockMap) (n : ℕ) (runs : List Run) : Type 0 where
  pub are : AreRuns runs
  pub each : (v at : ℕ) → StandsAt map n v at ↔ ((k : ℕ) × (run : Run) × (slice_get runs k ≡ Some run) × IsIn run v at)
