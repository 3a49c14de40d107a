-- Why an image opens as nothing: the first cause, with its place.
use Rattle.std.specs.Prelude.{◌≡◌, ◌⊎◌, ℕ, ◌+◌, ◌<◌, ◌≤◌, List, [], length, Option}
use Rattle.nesc_base.specs.declared.block.Block.{Block}
use Rattle.nesc_base.specs.declared.geometry.Geometry.{Geometry}
use Rattle.nesc_base.specs.Geometry.{map_at, map_blocks, table_at, total}
use Rattle.nesc_base.specs.Places.{Owner}
use Rattle.image_layout.specs.declared.fault.ImageFault.{ImageFault}
use Rattle.image_layout.specs.declared.fault.ImageFault.TheVariants.{BadSuper, BadSize, BadList}
use Rattle.image_layout.specs.declared.fault.ImageFault.TheVariants.{BadTable, BadOwner, TwiceOwned}
use Rattle.image_layout.specs.declared.table.TableEntry.{TableEntry}
use Rattle.image_layout.specs.Opens.{IsDivided, IsMap, IsMapBlock, Repeats}
use Rattle.slot_layout.specs.Slots.{LacksList, Lays, block_at}
use Rattle.image_layout.specs.Super.{IsSuperblock}
use Rattle.image_layout.specs.Table.{IsTable}

-- block 0 is no superblock
pub record LacksSuper (image : List Block) (place : ℕ) : Type 0 where
  pub some : 1 ≤ length image
  pub none : (geometry : Geometry) → ¬ IsSuperblock (block_at image 0) geometry
  pub at : place ≡ 0

-- there are fewer blocks than the superblock says, or none at all; the place is how many there are
pub record LacksBlocks (image : List Block) (place : ℕ) : Type 0 where
  pub few : (image ≡ [])
      ⊎ ((geometry : Geometry) × IsSuperblock (block_at image 0) geometry × (length image < total geometry))
  pub at : place ≡ length image

-- the table is none
pub record LacksTable (geometry : Geometry) (laid : List Block) (place : ℕ) : Type 0 where
  pub none : (entries : List (Option TableEntry)) → ¬ IsTable (block_at laid (table_at geometry)) entries
  pub at : place ≡ table_at geometry

-- the first map block that is none for the files of the table
pub record LacksOwners (geometry : Geometry) (laid : List Block) (place : ℕ) : Type 0 where
  pub entries : List (Option TableEntry)
  pub table : IsTable (block_at laid (table_at geometry)) entries
  pub b : ℕ
  pub last : b < map_blocks geometry
  pub before : (c : ℕ) → c < b → (owners : List (Option Owner)) × IsMapBlock geometry laid entries c owners
  pub none : (owners : List (Option Owner)) → ¬ IsMapBlock geometry laid entries b owners
  pub at : place ≡ map_at geometry + b

-- the first data block whose owner an earlier one has
pub record OwnsTwice (geometry : Geometry) (laid : List Block) (owner : Owner) : Type 0 where
  pub entries : List (Option TableEntry)
  pub table : IsTable (block_at laid (table_at geometry)) entries
  pub owners : List (Option Owner)
  pub owned : IsMap geometry laid entries owners
  pub k : ℕ
  pub repeats : Repeats owners k owner
  pub first : (j : ℕ) (earlier : Owner) → j < k → ¬ Repeats owners j earlier

-- blocks that are laid over have no files, for this cause
abbrev pub HasNoFiles : Geometry → List Block → ImageFault → Type 0
HasNoFiles geometry laid (BadTable place) = LacksTable geometry laid place
HasNoFiles geometry laid (BadOwner place) = LacksOwners geometry laid place
HasNoFiles geometry laid (TwiceOwned file v) = OwnsTwice geometry laid (file, v)
HasNoFiles geometry laid fault = ⊥

-- what the image stands for has no files
pub record DoesNotOpen (image : List Block) (fault : ImageFault) : Type 0 where
  pub geometry : Geometry
  pub divided : IsDivided image geometry
  pub laid : List Block
  pub lays : Lays geometry image laid
  pub has : HasNoFiles geometry laid fault

-- the image is refused with this fault
abbrev pub IsRefused : List Block → ImageFault → Type 0
IsRefused image (BadSuper place) = LacksSuper image place
IsRefused image (BadSize place) = LacksBlocks image place
IsRefused image (BadList place) = (geometry : Geometry) × IsDivided image geometry × LacksList geometry image place
IsRefused image fault = DoesNotOpen image fault

-- there is no superblock, or there are too few blocks
abbrev pub IsOfDivision : ImageFault → Type 0
IsOfDivision (BadSuper place) = Unit {0}
IsOfDivision (BadSize place) = Unit {0}
IsOfDivision fault = ⊥
