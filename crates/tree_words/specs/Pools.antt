-- The nodes of a tree are taken from a pool.
use Rattle.std.specs.Prelude.{ℕ}
use Rattle.host_memory.specs.Pool.{IsTaken, Pool}
use Rattle.tree_words.specs.Shown.{Layout, Stands}

-- each node that stands is taken from the pool
abbrev pub AreTaken : Pool → Layout → Type 0
AreTaken pool layout = (level k : ℕ) → Stands layout level k → IsTaken pool (layout level k)
