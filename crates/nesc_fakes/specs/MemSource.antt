-- What a source in memory is at a moment.
use Rattle.std.specs.Prelude.{ℕ, List}

pub record MemSourceState : Type 0 where
  -- the bytes that are left
  pub left : List ℕ
  -- the numbers of the calls that fail, from 1 on
  pub fails : List ℕ
  -- how many calls were made
  pub calls : ℕ
  -- how many of them failed
  pub faults : ℕ
