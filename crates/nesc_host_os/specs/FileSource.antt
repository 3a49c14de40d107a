-- What a file as a source is at a moment.
use Rattle.std.specs.Prelude.{ℕ, List, Option}

pub record FileSourceState (File : Type 0) : Type 0 where
  -- where the file is
  pub path : List ℕ
  -- the file, once it is open
  pub file : Option File
  -- how many reads failed
  pub faults : ℕ
