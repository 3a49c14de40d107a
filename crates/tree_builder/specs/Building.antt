-- What building the path to a block needs, and what it leaves.
use Rattle.std.specs.Prelude.{◌≡◌, ◌⊎◌, ◌↔◌, ℕ, ◌+◌, ◌≤◌, List, length}
use Rattle.nesc_base.specs.Memory.{KnownMemory}
use Rattle.nesc_base.specs.declared.runs.Run.{Run}
use Rattle.host_memory.specs.Pool.{HasRoom, IsFree, IsTaken, Pool, free_of}
use Rattle.tree_shape.specs.Shape.{IsLeafOver, IsTop, border}
use Rattle.tree_words.specs.Changed.{Adds, KeepsOthers, Lacks, WritesWords}
use Rattle.tree_words.specs.Pools.{AreTaken}
use Rattle.tree_words.specs.Shown.{IsCovered, IsOfTree, Layout, Shows, Stands}
use Rattle.tree_builder.specs.declared.building.Built.{Built}

-- so many nodes of the path to block v do not stand
pub record Needs (runs : List Run) (layout : Layout) (v needed : ℕ) : Type 0 where
  pub top : ℕ
  pub root_level : IsTop (length runs) top
  pub leaf : ℕ
  pub over : IsLeafOver runs v leaf
  pub lacks : Lacks top leaf layout needed

-- whatever part of the tree is shown, so many nodes of the path do not stand
abbrev pub NeedsIn : List ℕ → ℕ → List Run → ℕ → ℕ → Type 0
NeedsIn words root runs v needed = (layout : Layout) → Shows words root runs layout → Needs runs layout v needed

-- The path to block v may be built in the tree under this root: its words are shown, its nodes are taken from the pool,
-- the block is not covered, enough nodes are free, and the memory has room for all nodes of the pool.
pub record MayBuild (pool : Pool) (memory : KnownMemory) (root : ℕ) (runs : List Run) (v : ℕ) : Type 0 where
  pub layout : Layout
  pub shows : Shows memory.words root runs layout
  pub taken : AreTaken pool layout
  pub uncovered : ¬ IsCovered runs layout v
  pub enough : (needed : ℕ) → Needs runs layout v needed → needed ≤ free_of pool
  pub room : HasRoom (length memory.words) pool

-- What was done to the pool: the nodes that stand now and did not before were free and are taken, and nothing else has
-- changed.
pub record TakesNodes (old_layout new_layout : Layout) (count : ℕ) (old new : Pool) : Type 0 where
  pub fresh : (level k : ℕ) → Stands new_layout level k → Stands old_layout level k ⊎ IsFree old (new_layout level k)
  pub each : (address : ℕ) → IsTaken new address ↔ (IsTaken old address ⊎ IsOfTree new_layout address)
  pub count_is : free_of new + count ≡ free_of old
  pub as_many : length new.taken ≡ length old.taken

-- The path to block v was built in a tree whose nodes stood so.
pub record Builds (runs : List Run) (v : ℕ) (old : Layout) (old_pool new_pool : Pool)
    (old_memory new_memory : KnownMemory) (built : Built) : Type 0 where
  pub new : Layout
  pub shows : Shows new_memory.words built.root runs new
  pub needs : Needs runs old v built.nodes
  pub adds : Adds needs.top needs.leaf old new
  pub from : built.lo ≡ border runs 0 needs.leaf
  pub to : built.hi ≡ border runs 0 (needs.leaf + 1)
  pub pool : TakesNodes old new built.nodes old_pool new_pool
  pub writes : WritesWords old_memory new_memory
  pub others : KeepsOthers new old_memory.words new_memory.words

-- whatever part of the tree was shown, the path is built in it
abbrev pub BuildsPath : List Run → ℕ → ℕ → Pool → Pool → KnownMemory → KnownMemory → Built → Type 0
BuildsPath runs root v old_pool new_pool old_memory new_memory built =
    (old : Layout) → Shows old_memory.words root runs old
    → Builds runs v old old_pool new_pool old_memory new_memory built
