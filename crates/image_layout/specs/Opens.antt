-- When an image opens, and as which files.
use Rattle.std.specs.Prelude.{◌≡◌, ◌↔◌, ℕ, ◌+◌, ◌-◌, ◌*◌, ◌<◌, ◌≤◌, List, length, map, drop, take}
use Rattle.std.specs.Prelude.{Option, Some, None, IsSome, is_some, option_map, slice_get, unwrap_or}
use Rattle.std.specs.FinMap.{get}
use Rattle.nesc_base.specs.declared.block.Block.{Block}
use Rattle.nesc_base.specs.declared.geometry.Geometry.{Geometry}
use Rattle.nesc_base.specs.Files.{File, Files}
use Rattle.nesc_base.specs.Geometry.{area_from, block_owners, map_at, map_blocks, table_at, total}
use Rattle.nesc_base.specs.Places.{IsOwned, Owner, Owns, Places}
use Rattle.image_layout.specs.declared.table.TableEntry.{TableEntry}
use Rattle.image_layout.specs.Owners.{AreOwners}
use Rattle.slot_layout.specs.Slots.{Lays, block_at}
use Rattle.image_layout.specs.Super.{IsSuperblock}
use Rattle.image_layout.specs.Table.{IsTable}

-- the image has a superblock, and all the blocks that it says
pub record IsDivided (image : List Block) (geometry : Geometry) : Type 0 where
  pub some : 1 ≤ length image
  pub super : IsSuperblock (block_at image 0) geometry
  pub enough : total geometry ≤ length image

-- the lengths of the files of these entries
abbrev pub lengths_of : List (Option TableEntry) → List (Option ℕ)
lengths_of entries = map (option_map (λ entry. entry.length)) entries

-- how many of the entries of map block b stand for data blocks
abbrev pub entries_in : Geometry → ℕ → ℕ
entries_in geometry b = geometry.blocks - block_owners * b

-- map block b says who owns the data blocks from block_owners * b on
abbrev pub IsMapBlock : Geometry → List Block → List (Option TableEntry) → ℕ → List (Option Owner) → Type 0
IsMapBlock geometry laid entries b owners =
    AreOwners (lengths_of entries) (entries_in geometry b) (block_at laid (map_at geometry + b)) owners

-- the owners of all data blocks, in their order
pub record IsMap (geometry : Geometry) (laid : List Block) (entries : List (Option TableEntry))
    (owners : List (Option Owner)) : Type 0 where
  pub count : length owners ≡ block_owners * map_blocks geometry
  pub each : (b : ℕ) → b < map_blocks geometry
      → IsMapBlock geometry laid entries b (take block_owners (drop (block_owners * b) owners))

-- data block k repeats an earlier one
abbrev pub Repeats : List (Option Owner) → ℕ → Owner → Type 0
Repeats owners k owner =
    (slice_get owners k ≡ Some (Some owner)) × ((j : ℕ) × (j < k) × (slice_get owners j ≡ Some (Some owner)))

-- What the blocks of an image say that are laid over, part by part: the entries of the table and the owners of the data
-- blocks, none of which repeats another.
pub record HasParts (geometry : Geometry) (laid : List Block) (entries : List (Option TableEntry))
    (owners : List (Option Owner)) : Type 0 where
  pub table : IsTable (block_at laid (table_at geometry)) entries
  pub owned : IsMap geometry laid entries owners
  pub once : (k : ℕ) (owner : Owner) → ¬ Repeats owners k owner

-- what an image says: its division, itself with its slots laid over, and the parts of that
pub record Says (image : List Block) (geometry : Geometry) (laid : List Block) (entries : List (Option TableEntry))
    (owners : List (Option Owner)) : Type 0 where
  pub divided : IsDivided image geometry
  pub lays : Lays geometry image laid
  pub parts : HasParts geometry laid entries owners

-- a block at v of file n is held in the data block that has this owner
pub record IsHeld (geometry : Geometry) (laid : List Block) (owners : List (Option Owner)) (n v : ℕ)
    (block : Block) : Type 0 where
  pub k : ℕ
  pub owner : Owner
  pub owned : slice_get owners k ≡ Some (Some owner)
  pub file : owner.0.0 ≡ n
  pub place : owner.1 ≡ v
  pub stands : slice_get laid (area_from geometry + k) ≡ Some block

-- the files are those of the entries, entry e of file e + 1, and hold what the owners say
pub record AreFiles (geometry : Geometry) (laid : List Block) (entries : List (Option TableEntry))
    (owners : List (Option Owner)) (files : Files) : Type 0 where
  pub none : get files 0 ≡ None
  pub named : (e : ℕ) → option_map (λ file. record { name = file.name; length = file.length }) (get files (e + 1))
      ≡ unwrap_or (slice_get entries e) None
  pub held : (n v : ℕ) (file : File) (block : Block) → get files n ≡ Some file
      → (get file.body v ≡ Some block) ↔ IsHeld geometry laid owners n v block

-- there are places for each of the files and for no other, and they are those of the owners
pub record ArePlaces (geometry : Geometry) (owners : List (Option Owner)) (files : Files)
    (places : Places) : Type 0 where
  pub filed : (n : ℕ) → is_some (get places n) ≡ is_some (get files n)
  pub each : (n v at : ℕ) → IsSome (get files n) → Owns places n v at ↔ IsOwned (area_from geometry) owners n v at

-- the blocks that are laid over have these files, whose blocks stand at these places
pub record HasFiles (geometry : Geometry) (laid : List Block) (files : Files) (places : Places) : Type 0 where
  pub entries : List (Option TableEntry)
  pub owners : List (Option Owner)
  pub parts : HasParts geometry laid entries owners
  pub are_files : AreFiles geometry laid entries owners files
  pub are_places : ArePlaces geometry owners files places

-- the image opens as these files, whose blocks stand at these places
pub record Opens (image : List Block) (geometry : Geometry) (files : Files) (places : Places) : Type 0 where
  pub laid : List Block
  pub divided : IsDivided image geometry
  pub lays : Lays geometry image laid
  pub has : HasFiles geometry laid files places
