-- How files change, and what a change stages.
use Rattle.std.specs.Prelude.{◌≡◌, ◌⊎◌, ℕ, ◌+◌, ◌-◌, ◌/◌, ◌<◌, ◌≤◌, List, ◌++◌, length, take, slice_get, None, Some}
use Rattle.std.specs.FinMap.{get, insert}
use Rattle.nesc_base.specs.declared.block.Block.{Block}
use Rattle.nesc_base.specs.declared.geometry.Geometry.{Geometry}
use Rattle.nesc_base.specs.declared.runs.Area.{Area}
use Rattle.nesc_base.specs.Files.{File, Files, file_at}
use Rattle.nesc_base.specs.Geometry.{area_from, block_owners, map_at, table_at}
use Rattle.nesc_base.specs.Places.{Owns, Places}
use Rattle.block_map.specs.Map.{BlockMap, IsFreeAt, StandsAt}
use Rattle.file_model.specs.Files.{Creates, Deletes, LeadsTo, Puts, Resizes, below}
use Rattle.file_model.specs.Files.{holding, puts_from, unheld, unheld_below}
use Rattle.file_model.specs.Places.{Gives, cut_at, with_file, without_file}
use Rattle.host_journal.specs.Journal.{IsJournal, Journal, staging}
use Rattle.file_layer.specs.Layer.{Layer}
use Rattle.file_layer.specs.Showing.{Shows}

-- Whatever files and places the blocks show before, they show such ones behind.
abbrev pub Leads : (Files → Places → Files → Places → Type 0) → Layer → Journal → Layer → Journal → Type 0
Leads change old before new after =
    (kept : List Block) (set : Files) (places : Places) → Shows old before.staged kept set places
    → (others : Files) × (elsewhere : Places) × change set places others elsewhere
    × Shows new after.staged kept others elsewhere

-- The changes, each of files and of places

pub record IsCreated (n : ℕ) (name : List ℕ) (length : ℕ) (old : Files) (places : Places) (new : Files)
    (elsewhere : Places) : Type 0 where
  pub creates : Creates old n name length new
  pub files : elsewhere ≡ with_file places n

pub record IsDeleted (n : ℕ) (old : Files) (places : Places) (new : Files) (elsewhere : Places) : Type 0 where
  pub deletes : Deletes old n new
  pub gone : elsewhere ≡ without_file places n

pub record IsResized (n length : ℕ) (old : Files) (places : Places) (new : Files) (elsewhere : Places) : Type 0 where
  pub resizes : Resizes old n length new
  pub cut : elsewhere ≡ cut_at places n length

-- the file holds nothing at or past a length any more, and is as long as before
pub record IsShortened (n length : ℕ) (old : Files) (places : Places) (new : Files) (elsewhere : Places) : Type 0 where
  pub file : File
  pub stands : get old n ≡ Some file
  pub result : new ≡ insert old n (record file { body = below length file.body })
  pub cut : elsewhere ≡ cut_at places n length

-- these blocks, if there are any, come to be held, each at the lowest free place in turn
pub record AreFilled (area : Area) (n : ℕ) (blocks : List ℕ) (old : Files) (places : Places) (new : Files)
    (elsewhere : Places) : Type 0 where
  pub leads : LeadsTo old (holding n blocks) new
  pub gives : Gives area places n blocks elsewhere

-- the first so many of the blocks from v on that lie below the length and are not held come to be held
abbrev pub AreHeld : Area → ℕ → ℕ → ℕ → ℕ → Files → Places → Files → Places → Type 0
AreHeld area n v count held old = AreFilled area n (take held (unheld_below (file_at old n) v count)) old

-- all of the blocks from v on that are not held come to be held
abbrev pub AreMapped : Area → ℕ → ℕ → ℕ → Files → Places → Files → Places → Type 0
AreMapped area n v count old = AreFilled area n (unheld (file_at old n) v count) old

-- and then all are put
pub record ArePut (area : Area) (n v : ℕ) (blocks : List Block) (old : Files) (places : Places) (new : Files)
    (elsewhere : Places) : Type 0 where
  pub leads : LeadsTo old (holding n (unheld (file_at old n) v (length blocks)) ++ puts_from n v blocks) new
  pub gives : Gives area places n (unheld (file_at old n) v (length blocks)) elsewhere

-- What is staged

-- the places of the table, and of the map block that has the owner of the data block at a place
abbrev pub IsTable : Geometry → ℕ → Type 0
IsTable geometry at = at ≡ table_at geometry

abbrev pub map_block_of : Geometry → ℕ → ℕ
map_block_of geometry at = map_at geometry + (at - area_from geometry) / block_owners

-- the owner of a data block changes
abbrev pub ChangesOwner : BlockMap → BlockMap → ℕ → Type 0
ChangesOwner old new at = ¬ (slice_get old.owners (at - old.from) ≡ slice_get new.owners (at - new.from))

-- nothing is staged any more for a data block that was given back
abbrev pub Forgets : BlockMap → BlockMap → Journal → Type 0
Forgets old new after = (at : ℕ) → ChangesOwner old new at → IsFreeAt new at → get after.staged at ≡ None

-- a data block that changes its owner, or the map block that has its owner
abbrev pub IsOfOwners : Geometry → BlockMap → BlockMap → ℕ → Type 0
IsOfOwners geometry old new at =
    (block : ℕ) × (area_from geometry ≤ block) × ChangesOwner old new block
    × ((at ≡ block) ⊎ (at ≡ map_block_of geometry block))

-- a place of one of so many blocks of the file from v on
abbrev pub IsOfBlocks : BlockMap → ℕ → ℕ → ℕ → ℕ → Type 0
IsOfBlocks map n v count at = (w : ℕ) × (v ≤ w) × (w < v + count) × StandsAt map n w at

-- Nothing is staged or forgotten but at places that are named, and so many data blocks are counted.
pub record Stages (names : ℕ → Type 0) (count : ℕ) (old new : Journal) : Type 0 where
  pub counted : new.count ≡ old.count + count
  pub others : (at : ℕ) → ¬ names at → get new.staged at ≡ get old.staged at

-- The journal is as it was but for what is staged.
pub record GoesOn (old new : Journal) : Type 0 where
  pub sound : IsJournal new
  pub same_geometry : new.geometry ≡ old.geometry
  pub same_start : new.started ≡ old.started

-- a block that is staged for the place of block v of file n is that block of the file
abbrev pub PutsAt : Layer → Journal → Type 0
PutsAt files journal =
    (n v at : ℕ) (block : Block) (kept : List Block) (set : Files) (places : Places) →
    Shows files journal.staged kept set places → Owns places n v at
    → (others : Files) × Puts set n v block others × Shows files (staging journal at block).staged kept others places
