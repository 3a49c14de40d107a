-- One leaf is given back.
use Rattle.std.specs.Prelude.{◌≡◌, ℕ, ◌+◌, List, MatchOption, Option}
use Rattle.nesc_base.specs.Memory.{KnownMemory}
use Rattle.nesc_base.specs.Runs.{AreRuns}
use Rattle.nesc_base.specs.declared.runs.Run.{Run}
use Rattle.host_memory.specs.Pool.{GivesBack, Pool}
use Rattle.tree_shape.specs.Shape.{IsLeafOver, border}
use Rattle.tree_words.specs.Changed.{KeepsOthers, TakesAway, WritesWords}
use Rattle.tree_words.specs.Shown.{IsCovered, Layout, Shows, Stands}
use Rattle.tree_pruner.specs.declared.pruning.Pruned.{Pruned}

-- The leaf over block v stood and does not any more: its node is free, its parent's address of it is 0, and the
-- words of all other nodes are as they were.
pub record TakesLeaf (runs : List Run) (v : ℕ) (old : Layout) (old_pool new_pool : Pool)
    (old_memory new_memory : KnownMemory) (pruned : Pruned) : Type 0 where
  pub new : Layout
  pub leaf : ℕ
  pub over : IsLeafOver runs v leaf
  pub stood : Stands old 0 leaf
  pub takes : TakesAway leaf old new
  pub shows : Shows new_memory.words pruned.root runs new
  pub from : pruned.lo ≡ border runs 0 leaf
  pub to : pruned.hi ≡ border runs 0 (leaf + 1)
  pub gives : GivesBack old_pool (old 0 leaf) new_pool
  pub writes : WritesWords old_memory new_memory
  pub others : KeepsOthers new old_memory.words new_memory.words

-- the block was not covered, and nothing has changed
pub record TakesNone (runs : List Run) (v : ℕ) (old : Layout) (old_pool new_pool : Pool)
    (old_memory new_memory : KnownMemory) : Type 0 where
  pub uncovered : ¬ IsCovered runs old v
  pub same_pool : new_pool ≡ old_pool
  pub same_memory : new_memory ≡ old_memory

-- whatever tree was shown under the root
abbrev pub PrunesLeaf : ℕ → ℕ → Pool → Pool → KnownMemory → KnownMemory → Option Pruned → Type 0
PrunesLeaf root v old_pool new_pool old_memory new_memory answer =
    (runs : List Run) (old : Layout) → AreRuns runs → Shows old_memory.words root runs old
    → MatchOption answer (TakesNone runs v old old_pool new_pool old_memory new_memory)
    (λ pruned. TakesLeaf runs v old old_pool new_pool old_memory new_memory pruned)
