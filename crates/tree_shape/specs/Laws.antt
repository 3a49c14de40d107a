-- Laws of the shape of a tree.
use Rattle.std.specs.Prelude.{◌≡◌, ◌⊎◌, ◌↔◌, ℕ, ◌+◌, ◌*◌, ◌/◌, ◌%◌, ◌<◌, ◌≤◌, List, length, slice_get, Some}
use Rattle.nesc_base.specs.declared.runs.Run.{Run}
use Rattle.nesc_base.specs.Files.{longest_file}
use Rattle.nesc_base.specs.Runs.{IsIn}
use Rattle.tree_shape.specs.Shape.{Covers, HasNode, IsLeafOver, IsTop, border, children}
use Rattle.tree_shape.specs.Shape.{fanout, leaf_runs, node_over, path, span, width}

-- Levels

-- a tree of so many runs has one root: there is a level for it, and it is no other
pub record HasOneTop (count : ℕ) : Type 0 where
  pub some : (top : ℕ) × IsTop count top
  pub one : (top other : ℕ) → IsTop count top → IsTop count other → top ≡ other

-- no root stands above a level at which one node can hold all runs
abbrev pub IsNoHigher : ℕ → ℕ → Type 0
IsNoHigher count top = (level : ℕ) → IsTop count top → count ≤ span level → top ≤ level

-- A level has a node 0, also where there is no run, and further ones just where a run lies under them. The root's level
-- has node 0 alone.
pub record HasNodesOverRuns (count level : ℕ) : Type 0 where
  pub each : (k : ℕ) → (k < width count level) ↔ ((k ≡ 0) ⊎ (k * span level < count))
  pub root : IsTop count level → width count level ≡ 1

-- Borders

-- The nodes of a level divide the blocks that a file may have: the first begins with block 0, each with a later block
-- than the one before it, and the last goes up to the end. So each covers at least one block.
pub record HasRisingBorders (runs : List Run) (level : ℕ) : Type 0 where
  pub first : border runs level 0 ≡ 0
  pub rising : (j k : ℕ) → j < width (length runs) level → j < k → border runs level j < border runs level k
  pub inside : (k : ℕ) → k < width (length runs) level → border runs level k < longest_file
  pub end : (k : ℕ) → width (length runs) level ≤ k → border runs level k ≡ longest_file

-- one node of a level covers block v, and no other
pub record HasOneNodeOver (runs : List Run) (level v : ℕ) : Type 0 where
  pub some : (k : ℕ) × (k < width (length runs) level) × Covers runs level k v
  pub among : (k : ℕ) → Covers runs level k v → k < width (length runs) level
  pub one : (j k : ℕ) → Covers runs level j v → Covers runs level k v → j ≡ k

-- the root covers each block that a file may have
abbrev pub HasWholeRoot : List Run → ℕ → Type 0
HasWholeRoot runs top = (v : ℕ) → v < longest_file → Covers runs top 0 v

-- From a level to the one above

-- node k of a level hangs under a node of the level above, and covers no more than that one
pub record HangsUnder (runs : List Run) (top level k : ℕ) : Type 0 where
  pub has : HasNode (length runs) top (level + 1) (k / fanout)
  pub from : border runs (level + 1) (k / fanout) ≤ border runs level k
  pub to : border runs level (k + 1) ≤ border runs (level + 1) (k / fanout + 1)

-- A node of the level above has 1 to 10 children, one behind the other. The first begins where it begins, and the last
-- ends where it ends.
pub record HasChildren (runs : List Run) (level k : ℕ) : Type 0 where
  pub some : 1 ≤ children (length runs) level k
  pub most : children (length runs) level k ≤ fanout
  pub each : (c : ℕ) → ((c < width (length runs) level) × (c / fanout ≡ k))
      ↔ ((k * fanout ≤ c) × (c < k * fanout + children (length runs) level k))
  pub begin : border runs level (k * fanout) ≡ border runs (level + 1) k
  pub end : border runs level (k * fanout + children (length runs) level k) ≡ border runs (level + 1) (k + 1)

-- The path to a block

-- The nodes that cover block v are those that lead to the leaf over it, one of each level. Each hangs under the next,
-- from the leaf up to the root.
pub record HasPath (runs : List Run) (top v leaf : ℕ) : Type 0 where
  pub each : (level : ℕ) → level ≤ top
      → HasNode (length runs) top level (node_over level leaf) × Covers runs level (node_over level leaf) v
  pub alone : (level k : ℕ) → Covers runs level k v → k ≡ node_over level leaf
  pub lowest : node_over 0 leaf ≡ leaf
  pub above : (level : ℕ) → node_over (level + 1) leaf ≡ node_over level leaf / fanout
  pub root : node_over top leaf ≡ 0

-- the path to a leaf has one node of each level, from the root's on down
pub record IsPath (top leaf : ℕ) : Type 0 where
  pub long : length (path top leaf) ≡ top + 1
  pub each : (level down : ℕ) → level + down ≡ top → slice_get (path top leaf) down ≡ Some (node_over level leaf)

-- Leaves

-- Leaf k has 1 to 10 runs, or none where the file has none. It covers the blocks of each.
pub record HoldsRuns (runs : List Run) (k : ℕ) : Type 0 where
  pub most : length (leaf_runs runs k) ≤ fanout
  pub some : 1 ≤ length runs → k < width (length runs) 0 → 1 ≤ length (leaf_runs runs k)
  pub from : (j : ℕ) (run : Run) → slice_get (leaf_runs runs k) j ≡ Some run → border runs 0 k ≤ run.first
  pub to : (j : ℕ) (run : Run) → slice_get (leaf_runs runs k) j ≡ Some run
      → run.first + run.count ≤ border runs 0 (k + 1)

-- the run at a place is a run of one leaf
abbrev pub StandsInLeaf : List Run → ℕ → Type 0
StandsInLeaf runs j = slice_get (leaf_runs runs (j / fanout)) (j % fanout) ≡ slice_get runs j

-- a block that stands in a run has the leaf over it that the run is of
abbrev pub LeadsToRuns : List Run → Type 0
LeadsToRuns runs =
    (j : ℕ) (run : Run) (v at : ℕ) → slice_get runs j ≡ Some run → IsIn run v at → IsLeafOver runs v (j / fanout)

-- a block that stands in no run of the leaf over it stands in none at all
abbrev pub MissesNoRun : List Run → Type 0
MissesNoRun runs =
    (v leaf : ℕ) → IsLeafOver runs v leaf
    → ((j : ℕ) (run : Run) (at : ℕ) → slice_get (leaf_runs runs leaf) j ≡ Some run → ¬ IsIn run v at)
    → (j : ℕ) (run : Run) (at : ℕ) → slice_get runs j ≡ Some run → ¬ IsIn run v at
