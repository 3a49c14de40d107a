-- What room a command needs in the journal.
use Rattle.std.specs.Prelude.{◌≡◌, ℕ, ◌+◌, ◌≤◌, List, length, Some, Result, Err}
use Rattle.nesc_base.specs.Files.{File, Files}
use Rattle.file_layer.specs.Answers.{HoldAnswers}
use Rattle.file_layer.specs.Layer.{HasRoomFor, Layer, entry_of, lacking}
use Rattle.file_layer.specs.declared.files.FileFault.{FileFault}
use Rattle.file_layer.specs.declared.files.FileFault.TheVariants.{NoFile}
use Rattle.file_model.specs.Files.{HasName, IsUnnamed}
use Rattle.host_journal.specs.Journal.{Journal}
use Rattle.image_layout.specs.declared.table.TableEntry.{TableEntry}
use Rattle.nesc_requests.specs.declared.host.HostCommand.{HostCommand}
use Rattle.nesc_requests.specs.declared.host.HostCommand.TheVariants.{Put, Map}

-- so many blocks more can be counted
abbrev pub HasRoom : Journal → ℕ → Type 0
HasRoom journal count = journal.count + count ≤ journal.geometry.slack

-- a file has this name in the table
abbrev pub IsEntered : Layer → List ℕ → ℕ → Type 0
IsEntered files name n = (entry : TableEntry) × (entry_of files n ≡ Some entry) × (entry.name ≡ name)

-- how many blocks of a file of this name are not held, or why they are not to be had
abbrev pub LackAnswers : ℕ → Files → List ℕ → ℕ → ℕ → Result ℕ FileFault → Type 0
LackAnswers blocks set name v n (Err NoFile) = IsUnnamed set name
LackAnswers blocks set name v n result =
    (number : ℕ) × (file : File) × HasName set name number file × HoldAnswers blocks set number v n result

-- there is room in the journal for what the command stages, if it is not refused
abbrev pub HasRoomToDo : Layer → HostCommand → Journal → Type 0
HasRoomToDo files (Put name v blocks) journal = (n : ℕ) → IsEntered files name n → HasRoomFor files n v (length blocks)
    → HasRoom journal (length blocks)
HasRoomToDo files (Map name v count) journal = (n : ℕ) → IsEntered files name n → HasRoomFor files n v count
    → HasRoom journal (length (lacking files n v count))
HasRoomToDo files command journal = Unit {0}
