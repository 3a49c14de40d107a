-- What a sink in memory is at a moment.
use Rattle.std.specs.Prelude.{ℕ, List}

pub record MemSinkState : Type 0 where
  -- the bytes that were taken
  pub taken : List ℕ
  -- the numbers of the calls that fail, from 1 on
  pub fails : List ℕ
  -- how many calls were made
  pub calls : ℕ
  -- how many of them failed
  pub faults : ℕ
  -- how many more bytes the sink has memory for
  pub room : ℕ
