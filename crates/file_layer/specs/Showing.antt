-- When the blocks of an image show the files that are in memory.
use Rattle.std.specs.Prelude.{◌≡◌, ℕ, ◌≤◌, true, List, length, Some, slice_get}
use Rattle.std.specs.FinMap.{get}
use Rattle.nesc_base.specs.declared.block.Block.{Block}
use Rattle.nesc_base.specs.declared.geometry.Geometry.{Geometry}
use Rattle.nesc_base.specs.Disk.{Known}
use Rattle.nesc_base.specs.Files.{File, Files}
use Rattle.nesc_base.specs.Geometry.{total}
use Rattle.nesc_base.specs.Places.{Owns, Places}
use Rattle.image_layout.specs.Opens.{HasFiles, HasParts, IsDivided, Opens}
use Rattle.slot_layout.specs.Slots.{AreClosed}
use Rattle.host_journal.specs.Journal.{Journal}
use Rattle.host_journal.specs.Kept.{IsKept, Rests}
use Rattle.host_journal.specs.Staged.{Staged, now_of}
use Rattle.file_layer.specs.Knowing.{Knows}
use Rattle.file_layer.specs.Layer.{Fits, IsLayer, Layer, owners_of}

-- With what is staged laid over them, the kept blocks say what is in memory, and have these files at these places.
pub record Shows (files : Layer) (staged : Staged) (kept : List Block) (set : Files) (places : Places) : Type 0 where
  pub whole : total files.geometry ≤ length kept
  pub parts : HasParts files.geometry (now_of staged kept) files.table (owners_of files)
  pub knows : Knows files set places
  pub stands : (n v at : ℕ) (file : File) → get set n ≡ Some file → Owns places n v at
      → get file.body v ≡ slice_get (now_of staged kept) at

-- Files, a journal and a disk belong together: the journal belongs to the disk, and what the disk has kept shows the
-- files, where it tells.
pub record RestsOn (files : Layer) (journal : Journal) (disk : Known) : Type 0 where
  pub fits : Fits files journal
  pub rests : Rests journal disk
  pub parts : disk.tells ≡ true → (kept : List Block) → IsKept journal.geometry disk kept
      → HasParts files.geometry (now_of journal.staged kept) files.table (owners_of files)

-- what shows the files in memory has them, as an opening judges it
abbrev pub ShowsFiles : Layer → Staged → List Block → Files → Places → Type 0
ShowsFiles files staged kept set places = IsLayer files → Shows files staged kept set places
    → HasFiles files.geometry (now_of staged kept) set places

-- and opens as them, where what is kept is an image in which every gate is closed
abbrev pub ShowsOpens : Layer → Journal → List Block → Files → Places → Type 0
ShowsOpens files journal kept set places =
    Fits files journal → IsDivided kept files.geometry → AreClosed files.geometry kept
    → Shows files journal.staged kept set places
    → Opens (now_of journal.staged kept) files.geometry set places

-- and what an opening finds there is what the files in memory are
abbrev pub FoundIsShown : Layer → Staged → List Block → Files → Places → Type 0
FoundIsShown files staged kept set places =
    IsLayer files → total files.geometry ≤ length kept
    → HasParts files.geometry (now_of staged kept) files.table (owners_of files)
    → HasFiles files.geometry (now_of staged kept) set places → Shows files staged kept set places

-- a disk that has all blocks of an image has kept all of them
abbrev pub KeepsWhole : Geometry → Known → List Block → Type 0
KeepsWhole geometry disk kept = total geometry ≤ disk.size → length disk.contents ≡ disk.size
    → IsKept geometry disk kept → total geometry ≤ length kept

-- there are such files, wherever the parts are good
abbrev pub ShowsSome : Layer → Staged → List Block → Type 0
ShowsSome files staged kept =
    IsLayer files → total files.geometry ≤ length kept
    → HasParts files.geometry (now_of staged kept) files.table (owners_of files)
    → (set : Files) × (places : Places) × Shows files staged kept set places

-- the files change with the journal so that they are shown still, as some files
abbrev pub StayShown : Layer → Journal → Layer → Journal → Type 0
StayShown old before new after =
    (kept : List Block) (set : Files) (places : Places) → Shows old before.staged kept set places
    → (others : Files) × (elsewhere : Places) × Shows new after.staged kept others elsewhere
