-- What calls on files are answered, over the files that those in memory are.
use Rattle.std.specs.Prelude.{◌≡◌, ℕ, ◌+◌, ◌<◌, ◌≤◌, List, length, Some, None, Result, Ok, Err}
use Rattle.std.specs.FinMap.{get}
use Rattle.nesc_base.specs.declared.numbers.FileNo.{FileNo}
use Rattle.nesc_base.specs.Files.{File, Files}
use Rattle.file_model.specs.Files.{IsFull, IsLowestUnused, IsNamed, IsUnnamed, free, unheld}
use Rattle.file_layer.specs.declared.files.FileFault.{FileFault}
use Rattle.file_layer.specs.declared.files.FileFault.TheVariants.{Exists, NoSlot, NoFile, Range, NoSpace, Media}

-- a file is made under the lowest unused number, unless one has the name or none is unused
abbrev pub CreateAnswers : Files → List ℕ → Result FileNo FileFault → Type 0
CreateAnswers set name (Ok n) = IsUnnamed set name × IsLowestUnused set n.0
CreateAnswers set name (Err Exists) = IsNamed set name
CreateAnswers set name (Err NoSlot) = IsUnnamed set name × IsFull set
CreateAnswers set name (Err fault) = ⊥

-- the file is there, or else nothing is done
abbrev pub FileAnswers : {X : Type 0} → Files → ℕ → (File → X → Type 0) → Result X FileFault → Type 0
FileAnswers set n answers (Ok x) = (file : File) × (get set n ≡ Some file) × answers file x
FileAnswers set n answers (Err NoFile) = get set n ≡ None
FileAnswers set n answers (Err fault) = ⊥

-- so many blocks from v on do not all lie in the file
pub record IsPast (set : Files) (n v count : ℕ) : Type 0 where
  pub file : File
  pub stands : get set n ≡ Some file
  pub past : file.length < v + count

-- they do
pub record IsWithin (set : Files) (n v count : ℕ) : Type 0 where
  pub file : File
  pub stands : get set n ≡ Some file
  pub within : v + count ≤ file.length

-- they do, and there are too few free data blocks for those that are not held
pub record LacksSpace (blocks : ℕ) (set : Files) (n v count are_free needed : ℕ) : Type 0 where
  pub file : File
  pub stands : get set n ≡ Some file
  pub within : v + count ≤ file.length
  pub free : are_free ≡ free blocks set
  pub lacked : needed ≡ length (unheld file v count)
  pub few : are_free < needed

-- they do, and there are enough; so many come to be held
pub record HasSpace (blocks : ℕ) (set : Files) (n v count newly : ℕ) : Type 0 where
  pub file : File
  pub stands : get set n ≡ Some file
  pub within : v + count ≤ file.length
  pub counted : newly ≡ length (unheld file v count)
  pub enough : newly ≤ free blocks set

-- blocks of a file are held, all of them or none, with this first cause
abbrev pub HoldAnswers : ℕ → Files → ℕ → ℕ → ℕ → Result ℕ FileFault → Type 0
HoldAnswers blocks set n v count (Ok newly) = HasSpace blocks set n v count newly
HoldAnswers blocks set n v count (Err NoFile) = get set n ≡ None
HoldAnswers blocks set n v count (Err Range) = IsPast set n v count
HoldAnswers blocks set n v count (Err (NoSpace free needed)) = LacksSpace blocks set n v count free needed
HoldAnswers blocks set n v count (Err fault) = ⊥

-- they are read
abbrev pub GetAnswers : Files → ℕ → ℕ → ℕ → Result (Unit {0}) FileFault → Type 0
GetAnswers set n v count (Ok done) = IsWithin set n v count
GetAnswers set n v count (Err NoFile) = get set n ≡ None
GetAnswers set n v count (Err Range) = IsPast set n v count
GetAnswers set n v count (Err Media) = IsWithin set n v count
GetAnswers set n v count (Err fault) = ⊥
