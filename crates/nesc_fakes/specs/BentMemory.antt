-- What a memory over another, one fetch of which is bent, knows of itself.
use Rattle.std.specs.Prelude.{ℕ, List}
use Rattle.nesc_base.specs.Memory.{KnownMemory}
use Rattle.nesc_fakes.specs.TinyFuse.{counted}

pub record BentMemoryState (Inner : Type 0) : Type 0 where
  -- the memory that it passes its calls on to
  pub inner : Inner
  -- the number of the bent fetch among those to come, or 0 where none is
  pub ahead : ℕ
  -- the words that it gives
  pub given : List ℕ
  -- how many fetches were bent here
  pub bent : ℕ

abbrev pub known_of : {Inner : Type 0} → (Inner → KnownMemory) → BentMemoryState Inner → KnownMemory
known_of known memory = record (known memory.inner) { bent = counted (known memory.inner).bent memory.bent }
