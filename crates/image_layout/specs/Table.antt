-- The table of files: one entry of 32 bytes for each file that there may be, in the order of their numbers.
use Rattle.std.specs.Prelude.{◌≡◌, ℕ, ◌≤◌, List, ◌∷◌, ◌++◌, length, replicate, Option, Some, None, IsTrue, slice_get}
use Rattle.std.specs.List.{AllByRecursion}
use Rattle.nesc_base.specs.declared.block.Block.{Block}
use Rattle.nesc_base.specs.Files.{longest_file, most_files}
use Rattle.nesc_base.specs.Name.{is_name, longest_name}
use Rattle.image_layout.specs.declared.table.TableEntry.{TableEntry}
use Rattle.slot_layout.specs.Bytes.{block_of_bytes, four_bytes, padded, spelled}

-- how many bytes an entry has
abbrev pub entry_size : ℕ
entry_size = 32

-- an entry that is not used has zeros; one that is used a flag, the length of the name, the length of the file and
-- the name
abbrev pub entry_bytes : Option TableEntry → List ℕ
entry_bytes None = replicate entry_size 0
entry_bytes (Some entry) = 1 ∷ length entry.name ∷ 0 ∷ 0 ∷ four_bytes entry.length ++ padded longest_name entry.name

unfoldable pub table_block : List (Option TableEntry) → Block
table_block entries = block_of_bytes (spelled entry_bytes entries)

-- what an entry may say
abbrev pub Fits : Option TableEntry → Type 0
Fits None = Unit {0}
Fits (Some entry) = IsTrue (is_name entry.name) × (entry.length ≤ longest_file)

-- entries as there may be: no two have one name
pub record AreEntries (entries : List (Option TableEntry)) : Type 0 where
  pub count : length entries ≡ most_files
  pub fit : AllByRecursion Fits entries
  pub apart : (i j : ℕ) (one other : TableEntry) → slice_get entries i ≡ Some (Some one)
      → slice_get entries j ≡ Some (Some other)
      → one.name ≡ other.name → i ≡ j

-- the block is this spelling of entries that there may be
pub record IsTable (block : Block) (entries : List (Option TableEntry)) : Type 0 where
  pub good : AreEntries entries
  pub spelling : block ≡ table_block entries
