-- Which files those in memory are.
use Rattle.std.specs.Prelude.{◌≡◌, ◌↔◌, ℕ, Some, IsSome, option_map}
use Rattle.std.specs.FinMap.{get}
use Rattle.nesc_base.specs.Files.{File, Files}
use Rattle.nesc_base.specs.Places.{Places, place_of}
use Rattle.image_layout.specs.Opens.{ArePlaces}
use Rattle.file_layer.specs.Layer.{Layer, entry_of, owners_of}
use Rattle.image_layout.specs.declared.table.TableEntry.{TableEntry}

-- another name for the files of the plain machine, for where this crate's own type hides it
abbrev pub FileSet : Type 0
FileSet = Files

-- what the table says of a file
abbrev pub entry_for : File → TableEntry
entry_for file = record { name = file.name; length = file.length }

-- They are these files, with blocks at these places: all of them but for what their blocks hold.
pub record Knows (files : Layer) (set : FileSet) (places : Places) : Type 0 where
  pub named : (n : ℕ) → option_map entry_for (get set n) ≡ entry_of files n
  pub placed : ArePlaces files.geometry (owners_of files) set places
  pub held : (n v : ℕ) (file : File) → get set n ≡ Some file → IsSome (get file.body v) ↔ IsSome (place_of places n v)

-- so it is of whatever files they are
abbrev pub OfFiles : Layer → (FileSet → Places → Type 0) → Type 0
OfFiles files P = (set : FileSet) (places : Places) → Knows files set places → P set places
