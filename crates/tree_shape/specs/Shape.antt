-- Which nodes the tree of a file has, which blocks each covers, and which of them lead to a block.
--
-- The runs of the file are cut in their order into leaves of ten, the leaves into inner nodes of ten, and so on up to
-- one root; the last node of a level may have fewer. A file with no run has one leaf, which is empty. A node is named
-- by its level, counted from the leaves, which are level 0, and by its number in that level, counted from 0.
use Rattle.std.specs.Prelude.{ℕ, zero, suc, ◌+◌, ◌-◌, ◌*◌, ◌/◌, ◌^◌, ◌<◌, ◌≤◌, min}
use Rattle.std.specs.Prelude.{max, List, [], ◌∷◌, length, take, drop, slice_get}
use Rattle.std.specs.Option.{option_map_or}
use Rattle.nesc_base.specs.declared.runs.Run.{Run}
use Rattle.nesc_base.specs.Files.{longest_file}

-- how many entries a node has at most
abbrev pub fanout : ℕ
fanout = 10

-- how many runs lie under a whole node of a level
abbrev pub span : ℕ → ℕ
span level = fanout ^ (level + 1)

-- the root of the tree of so many runs stands at this level, the lowest at which one node can hold them all
pub record IsTop (count top : ℕ) : Type 0 where
  pub holds : count ≤ span top
  pub lowest : (level : ℕ) → level < top → span level < count

-- no root stands above this level, since a file has no more runs than blocks
abbrev pub highest : ℕ
highest = 6

-- how many nodes a level has
abbrev pub width : ℕ → ℕ → ℕ
width count level = max 1 ((count + (span level - 1)) / span level)

-- the tree of so many runs, whose root stands at this level, has node k of a level
pub record HasNode (count top level k : ℕ) : Type 0 where
  pub at_level : level ≤ top
  pub among : k < width count level

-- how many nodes of a level hang under node k of the level above
abbrev pub children : ℕ → ℕ → ℕ → ℕ
children count level k = min fanout (width count level - k * fanout)

-- the runs of leaf k
abbrev pub leaf_runs : List Run → ℕ → List Run
leaf_runs runs k = take fanout (drop (k * fanout) runs)

-- With which block node k of a level begins: the first of a level with block 0, each other with the first block of its
-- first run. Behind the last it is the end of what a file may have.
abbrev pub border : List Run → ℕ → ℕ → ℕ
border runs level zero = 0
border runs level (suc k) = option_map_or (λ run. run.first) (slice_get runs (suc k * span level)) longest_file

-- node k of a level covers block v
pub record Covers (runs : List Run) (level k v : ℕ) : Type 0 where
  pub from : border runs level k ≤ v
  pub below : v < border runs level (k + 1)

-- leaf k is the one that covers block v
pub record IsLeafOver (runs : List Run) (v k : ℕ) : Type 0 where
  pub has : k < width (length runs) 0
  pub covers : Covers runs 0 k v

-- the node of a level that leads to leaf k
abbrev pub node_over : ℕ → ℕ → ℕ
node_over level leaf = leaf / (fanout ^ level)

-- the numbers of the nodes that lead to a leaf, from the root, which stands at this level, down to the leaf
abbrev pub path : ℕ → ℕ → List ℕ
path zero leaf = leaf ∷ []
path (suc level) leaf = node_over (suc level) leaf ∷ path level leaf
