-- How far the path to a leaf stands, what its nodes say, and what making those that lack leaves.
use Rattle.std.specs.Prelude.{◌≡◌, ◌≢◌, ◌⊎◌, ◌↔◌, ℕ, ◌+◌, ◌-◌, ◌*◌, ◌%◌, ◌≤◌, ◌<◌, List, length}
use Rattle.nesc_base.specs.Memory.{IsNodeOf, KnownMemory, Stores, node_at}
use Rattle.nesc_base.specs.declared.runs.Run.{Run}
use Rattle.host_memory.specs.Pool.{IsFree, IsTaken, Pool, free_of}
use Rattle.tree_shape.specs.Shape.{IsLeafOver, IsTop, fanout, node_over}
use Rattle.tree_words.specs.Changed.{Lacks, WritesWords, with_node}
use Rattle.tree_words.specs.Shown.{Layout, Shows, Stands, words_at}
use Rattle.tree_builder.specs.declared.way.Way.{Way}

-- The nodes of the path stand from the root down to this level, and the lowest of them is where the way says.
pub record GoesDown (runs : List Run) (layout : Layout) (v : ℕ) (way : Way) : Type 0 where
  pub root_level : IsTop (length runs) way.top
  pub over : IsLeafOver runs v way.leaf
  pub most : way.lacking ≤ way.top + 1
  pub have : (level : ℕ) → way.lacking ≤ level → level ≤ way.top → Stands layout level (node_over level way.leaf)
  pub lowest : way.lacking ≤ way.top → way.lowest ≡ layout way.lacking (node_over way.lacking way.leaf)
  pub none : way.lacking ≡ way.top + 1 → way.lowest ≡ 0

-- at this address the next lower node stands, or 0 is there where it does not or where there is none
pub record IsNext (layout : Layout) (way : Way) (next : ℕ) : Type 0 where
  pub lower : (below : ℕ) → way.lacking ≡ below + 1 → next ≡ layout below (node_over below way.leaf)
  pub end : way.lacking ≡ 0 → next ≡ 0

-- it goes down as far as the nodes stand
pub record IsWay (runs : List Run) (layout : Layout) (v : ℕ) (way : Way) : Type 0 where
  pub goes : GoesDown runs layout v way
  pub lacks : Lacks way.top way.leaf layout way.lacking

-- whatever part of the tree is shown
abbrev pub IsWayIn : List ℕ → ℕ → List Run → ℕ → Way → Type 0
IsWayIn words root runs v way = (layout : Layout) → Shows words root runs layout → IsWay runs layout v way

-- which child of the node above is the node of a level that leads to a leaf
abbrev pub slot : ℕ → ℕ → ℕ
slot level leaf = node_over level leaf % fanout

-- which word of an inner node has the address of the child in a slot
abbrev pub slot_word : ℕ → ℕ
slot_word child = 4 + 3 * child

-- no node stands but one
abbrev pub only : ℕ → ℕ → ℕ → Layout
only level k address = with_node (λ _ _. 0) level k address

-- the words of the node of a level that leads to a leaf, over its one child that stands
abbrev pub path_words : List Run → ℕ → ℕ → ℕ → List ℕ
path_words runs leaf level child =
    words_at runs (only (level - 1) (node_over (level - 1) leaf) child) level (node_over level leaf)

-- the address is that of one of so many nodes
abbrev pub IsMade : (ℕ → ℕ) → ℕ → ℕ → Type 0
IsMade made count address = (level : ℕ) × (level < count) × (address ≡ made level)

-- The nodes of so many levels, from the leaf's on up, were free, and are taken and say what they are to say; the last
-- stands at this address.
pub record MakesNodes (runs : List Run) (leaf count : ℕ) (old_pool new_pool : Pool) (old new : KnownMemory)
    (last : ℕ) : Type 0 where
  pub made : ℕ → ℕ
  pub fresh : (level : ℕ) → level < count → IsFree old_pool (made level)
  pub apart : (level other : ℕ) → level < count → other < count → made level ≡ made other → level ≡ other
  pub says : (level : ℕ) → level < count
      → node_at new.words (made level) ≡ path_words runs leaf level (made (level - 1))
  pub last_is : (below : ℕ) → count ≡ below + 1 → last ≡ made below
  pub each : (address : ℕ) → IsTaken new_pool address ↔ (IsTaken old_pool address ⊎ IsMade made count address)
  pub count_is : free_of new_pool + count ≡ free_of old_pool
  pub as_many : length new_pool.taken ≡ length old_pool.taken
  pub writes : WritesWords old new
  pub size : length new.words ≡ length old.words
  pub others : (address : ℕ) → IsNodeOf old.words address → ¬ IsMade made count address
      → node_at new.words address ≡ node_at old.words address

-- The node was linked into the lowest that stood, or is the root where none did.
pub record LinksPath (way : Way) (old_root made : ℕ) (old new : KnownMemory) (root : ℕ) : Type 0 where
  pub alone : way.lowest ≡ 0 → (root ≡ made) × (new ≡ old)
  pub into : way.lowest ≢ 0
      → (root ≡ old_root) × Stores (way.lowest + slot_word (slot (way.lacking - 1) way.leaf)) made old new
