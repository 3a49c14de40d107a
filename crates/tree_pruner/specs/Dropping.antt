-- A whole tree is given back.
use Rattle.std.specs.Prelude.{◌≡◌, ◌↔◌, ℕ, ◌+◌, List, length}
use Rattle.nesc_base.specs.Runs.{AreRuns}
use Rattle.nesc_base.specs.declared.runs.Run.{Run}
use Rattle.host_memory.specs.Pool.{IsTaken, Pool, free_of}
use Rattle.tree_words.specs.Pools.{AreTaken}
use Rattle.tree_words.specs.Shown.{IsOfTree, Layout, Shows}

-- The tree under this root may be given back, or a part of it: it is the tree of some runs, and its nodes are taken.
pub record HasTree (pool : Pool) (words : List ℕ) (root : ℕ) : Type 0 where
  pub runs : List Run
  pub are_runs : AreRuns runs
  pub layout : Layout
  pub shows : Shows words root runs layout
  pub taken : AreTaken pool layout

-- so many nodes were taken and are free, all that stand; each other node is as before
pub record GivesNodesBack (layout : Layout) (count : ℕ) (old new : Pool) : Type 0 where
  pub each : (address : ℕ) → IsTaken new address ↔ (IsTaken old address × ¬ IsOfTree layout address)
  pub count_is : free_of new ≡ free_of old + count
  pub as_many : length new.taken ≡ length old.taken

-- whatever tree was shown under the root, its nodes were given back
abbrev pub DropsTree : List ℕ → ℕ → ℕ → Pool → Pool → Type 0
DropsTree words root count old new =
    (runs : List Run) (layout : Layout) → AreRuns runs → Shows words root runs layout
    → GivesNodesBack layout count old new
