-- What a writer of std as a sink is at a moment.
use Rattle.std.specs.Prelude.{ℕ}

pub record StdSinkState (Writer : Type 0) : Type 0 where
  -- the writer
  pub inner : Writer
  -- how many writes failed
  pub faults : ℕ
