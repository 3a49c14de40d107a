-- Laws of the definitions.
use Rattle.nesc_base.specs.Files.{Files, IsFileSet}
use Rattle.file_model.specs.Files.{Change, Changes, MayChange}

-- a change leaves files as they may be
abbrev pub KeepsFileSets : Change → Type 0
KeepsFileSets change = MayChange change → (old new : Files) → IsFileSet old → Changes old change new → IsFileSet new
