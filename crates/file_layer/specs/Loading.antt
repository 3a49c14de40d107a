-- What a loading finds.
use Rattle.std.specs.Prelude.{◌≡◌, ℕ, zero, suc, ◌*◌, ◌<◌, true, List, [], ◌∷◌, length, drop, take}
use Rattle.std.specs.Prelude.{Option, None, Some, Result, IsErrOf, MatchOption, OnOk, slice_get}
use Rattle.nesc_base.specs.declared.block.Block.{Block}
use Rattle.nesc_base.specs.declared.geometry.Geometry.{Geometry}
use Rattle.nesc_base.specs.Disk.{Known}
use Rattle.nesc_base.specs.Geometry.{area_from, block_owners, table_at}
use Rattle.nesc_base.specs.Places.{Owner}
use Rattle.block_map.specs.Map.{BlockMap}
use Rattle.image_layout.specs.declared.fault.ImageFault.{ImageFault}
use Rattle.image_layout.specs.declared.fault.OpenFault.{OpenFault}
use Rattle.image_layout.specs.declared.fault.OpenFault.TheVariants.{Disk, Image, NoMemory}
use Rattle.image_layout.specs.declared.table.TableEntry.{TableEntry}
use Rattle.image_layout.specs.Opens.{HasParts, IsMapBlock, Repeats, entries_in, lengths_of}
use Rattle.image_layout.specs.Owners.{MayOwn}
use Rattle.image_layout.specs.Refusal.{HasNoFiles}
use Rattle.image_layout.specs.Table.{IsTable}
use Rattle.host_journal.specs.Journal.{Journal}
use Rattle.host_journal.specs.Kept.{IsKept}
use Rattle.host_journal.specs.Staged.{now_of}
use Rattle.slot_layout.specs.Slots.{block_at}
use Rattle.file_layer.specs.Layer.{Layer, owners_of}

-- Over a disk that tells: the files are what the journal's blocks say, or the blocks have none for this cause.
pub record Loads (journal : Journal) (disk : Known) (new : Layer) (result : Result (Unit {0}) OpenFault) : Type 0 where
  pub loaded : disk.tells ≡ true → (kept : List Block) → IsKept journal.geometry disk kept
      → OnOk result (HasParts new.geometry (now_of journal.staged kept) new.table (owners_of new))
  pub refused : disk.tells ≡ true → (kept : List Block) → IsKept journal.geometry disk kept
      → (fault : ImageFault) → IsErrOf result (Image fault)
      → HasNoFiles journal.geometry (now_of journal.staged kept) fault

-- The parts of a loading

-- over a disk that tells, whatever blocks it has kept, P holds of the journal's
abbrev pub OfBlocks : Journal → Known → (List Block → Type 0) → Type 0
OfBlocks journal disk P = disk.tells ≡ true → (kept : List Block) → IsKept journal.geometry disk kept
    → P (now_of journal.staged kept)

-- this block of them stands at a place
abbrev pub IsBlockNow : Journal → Known → ℕ → Block → Type 0
IsBlockNow journal disk at block = OfBlocks journal disk (λ blocks. block ≡ block_at blocks at)

-- the map has the data blocks of an image of this division
pub record IsMapOf (geometry : Geometry) (map : BlockMap) : Type 0 where
  pub from : map.from ≡ area_from geometry
  pub count : length map.owners ≡ geometry.blocks

-- the first so many owners, and none behind the last
abbrev pub padded : ℕ → List (Option Owner) → List (Option Owner)
padded zero owners = []
padded (suc n) [] = None ∷ padded n []
padded (suc n) (owner ∷ owners) = owner ∷ padded n owners

-- each of these owners may own, as the files of these entries are
abbrev pub MayOwnEach : List (Option TableEntry) → ℕ → List (Option Owner) → Type 0
MayOwnEach entries count owners = (k : ℕ) (owner : Owner) → slice_get owners k ≡ Some (Some owner)
    → MayOwn (lengths_of entries) count k owner

-- its data blocks have these owners, from the first on, each of them once
pub record HasOwners (geometry : Geometry) (map : BlockMap) (owners : List (Option Owner)) : Type 0 where
  pub from : map.from ≡ area_from geometry
  pub set : map.owners ≡ padded geometry.blocks owners
  pub once : (k : ℕ) (owner : Owner) → ¬ Repeats owners k owner

-- the owners that the map has of the data blocks before those of map block b
abbrev pub owners_before : ℕ → BlockMap → List (Option Owner)
owners_before b map = take (block_owners * b) map.owners

-- the first owner that an earlier data block has
abbrev pub IsFirstTwice : List (Option Owner) → Owner → Type 0
IsFirstTwice owners owner =
    (k : ℕ) × Repeats owners k owner × ((j : ℕ) (earlier : Owner) → j < k → ¬ Repeats owners j earlier)

-- The first so many map blocks are good for the files of these entries, and the map has their owners, or one of them
-- stands twice.
pub record MapLoads (geometry : Geometry) (journal : Journal) (disk : Known) (entries : List (Option TableEntry))
    (b : ℕ) (map : BlockMap) (twice : Option Owner) : Type 0 where
  pub owners : List (Option Owner)
  pub count : length owners ≡ block_owners * b
  pub may : (c : ℕ) → c < b
      → MayOwnEach entries (entries_in geometry c) (take block_owners (drop (block_owners * c) owners))
  pub each : OfBlocks journal disk (λ blocks. (c : ℕ) → c < b
      → IsMapBlock geometry blocks entries c (take block_owners (drop (block_owners * c) owners)))
  pub set : MatchOption twice (HasOwners geometry map owners) (IsFirstTwice owners)

-- a map block is bad for the files of these entries, or the disk failed
abbrev pub LacksMap : Geometry → Journal → Known → List (Option TableEntry) → OpenFault → Type 0
LacksMap geometry journal disk entries NoMemory = ⊥
LacksMap geometry journal disk entries (Disk fault) = Unit {0}
LacksMap geometry journal disk entries (Image fault) =
    OfBlocks journal disk (λ blocks. IsTable (block_at blocks (table_at geometry)) entries
    → HasNoFiles geometry blocks fault)
