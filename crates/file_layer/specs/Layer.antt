-- The files of an image as they are kept in memory: what the table says, and who owns each data block.
use Rattle.std.specs.Prelude.{◌≡◌, ℕ, ◌+◌, ◌-◌, ◌*◌, ◌≤◌, ◌==◌, ◌&&◌, nat_lt, not, Bool, false, List, ◌++◌, length}
use Rattle.std.specs.Prelude.{filter, Option, Some, None, IsSome, if◌then◌else◌, replicate, slice_get, unwrap_or}
use Rattle.std.specs.List.{list_any, range_with_len}
use Rattle.nesc_base.specs.declared.geometry.Geometry.{Geometry}
use Rattle.nesc_base.specs.declared.runs.Area.{Area}
use Rattle.nesc_base.specs.Files.{most_files}
use Rattle.nesc_base.specs.Geometry.{IsGeometry, area_from, block_owners, map_blocks, total}
use Rattle.nesc_base.specs.Places.{Owner}
use Rattle.block_map.specs.Map.{count_free, empty_map}
use Rattle.image_layout.specs.declared.table.TableEntry.{TableEntry}
use Rattle.image_layout.specs.Opens.{lengths_of}
use Rattle.image_layout.specs.Owners.{MayOwn}
use Rattle.image_layout.specs.Table.{AreEntries}
use Rattle.host_journal.specs.Journal.{IsJournal, Journal}
use Rattle.file_layer.specs.declared.files.Files as declared

-- how the image is divided, its table, and its data blocks with their owners
abbrev pub Layer : Type 0
Layer = declared.Files

-- those of an image of no files
abbrev pub no_files : Geometry → Layer
no_files geometry = record { geometry = geometry; table = replicate most_files None; map = empty_map geometry }

-- the owners that the map blocks have: those of all data blocks, and none for the rest of the last map block
abbrev pub owners_of : Layer → List (Option Owner)
owners_of files = files.map.owners ++ replicate (block_owners * map_blocks files.geometry - files.geometry.blocks) None

-- where the data blocks stand
abbrev pub area_of : Geometry → Area
area_of geometry = record { from = area_from geometry; to = total geometry }

-- each owner stands once
abbrev pub AreApartOwners : List (Option Owner) → Type 0
AreApartOwners owners = (j k : ℕ) (owner : Owner) → slice_get owners j ≡ Some (Some owner)
    → slice_get owners k ≡ Some (Some owner) → j ≡ k

-- what they are in themselves: the table has entries as there may be, there is an owner, or none, for each data block,
-- and each owner is a file that has the block, and owns it once
pub record IsLayer (files : Layer) : Type 0 where
  pub sizes : IsGeometry files.geometry
  pub entries : AreEntries files.table
  pub from : files.map.from ≡ area_from files.geometry
  pub count : length files.map.owners ≡ files.geometry.blocks
  pub may : (k : ℕ) (owner : Owner) → slice_get files.map.owners k ≡ Some (Some owner)
      → MayOwn (lengths_of files.table) files.geometry.blocks k owner
  pub once : AreApartOwners files.map.owners

-- files and a journal of one image
pub record Fits (files : Layer) (journal : Journal) : Type 0 where
  pub layer : IsLayer files
  pub sound : IsJournal journal
  pub same : journal.geometry ≡ files.geometry

-- What is asked of a file before it is changed

-- the entry of the file of a number, if it is used
abbrev pub entry_of : Layer → ℕ → Option TableEntry
entry_of files n = if n == 0 then None else unwrap_or (slice_get files.table (n - 1)) None

-- the entry with another length
abbrev pub with_length : ℕ → TableEntry → TableEntry
with_length length entry = record entry { length = length }

-- there is a file of this number
abbrev pub IsUsed : Layer → ℕ → Type 0
IsUsed files n = IsSome (entry_of files n)

-- the block of the file is held
abbrev pub is_owned_by : ℕ → ℕ → Option Owner → Bool
is_owned_by n v None = false
is_owned_by n v (Some owner) = owner.0.0 == n && owner.1 == v

abbrev pub is_held : Layer → ℕ → ℕ → Bool
is_held files n v = list_any (is_owned_by n v) files.map.owners

-- those of so many blocks of the file from v on that are not held
abbrev pub lacking : Layer → ℕ → ℕ → ℕ → List ℕ
lacking files n v count = filter (λ at. not (is_held files n at)) (range_with_len v count)

-- those of them that lie below a length
abbrev pub lacking_below : Layer → ℕ → ℕ → ℕ → ℕ → List ℕ
lacking_below files n length v count = filter (λ at. nat_lt at length) (lacking files n v count)

-- so many blocks of a file from v on lie in it, and there are free data blocks for those that are not held
pub record HasRoomFor (files : Layer) (n v count : ℕ) : Type 0 where
  pub entry : TableEntry
  pub used : entry_of files n ≡ Some entry
  pub within : v + count ≤ entry.length
  pub enough : length (lacking files n v count) ≤ count_free files.map.owners
