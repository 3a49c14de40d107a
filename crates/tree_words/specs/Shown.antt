-- When the words of a host's memory show the tree of a file's runs, or as much of it as stands.
use Rattle.std.specs.Prelude.{◌≡◌, ◌≢◌, ℕ, zero, suc, ◌+◌, ◌-◌, ◌*◌, ◌/◌, ◌<◌, List, length, map}
use Rattle.std.specs.List.{range_with_len}
use Rattle.nesc_base.specs.Memory.{IsNodeOf, node_at}
use Rattle.nesc_base.specs.declared.runs.Run.{Run}
use Rattle.extent_node.specs.Words.{node_words}
use Rattle.extent_node.specs.declared.entries.Entry.{Entry}
use Rattle.extent_node.specs.declared.node.Kind.TheVariants.{Inner, Leaf}
use Rattle.tree_shape.specs.Shape.{HasNode, IsLeafOver, IsTop, border, children, fanout, leaf_runs}

-- the address at which each node of a tree stands, by its level and its number there; 0 where it does not stand
abbrev pub Layout : Type 0
Layout = ℕ → ℕ → ℕ

-- no node stands
abbrev pub no_nodes : Layout
no_nodes level k = 0

abbrev pub Stands : Layout → ℕ → ℕ → Type 0
Stands layout level k = layout level k ≢ 0

-- the entries of leaf k: its runs
abbrev pub leaf_entry : Run → Entry
leaf_entry run = record { first = run.first; count = run.count; place = run.place }

abbrev pub leaf_entries : List Run → ℕ → List Entry
leaf_entries runs k = map leaf_entry (leaf_runs runs k)

-- the entry for node k of a level in the node above it: what it covers, and where it stands
abbrev pub child_entry : List Run → Layout → ℕ → ℕ → Entry
child_entry runs layout level k =
    record {
      first = border runs level k;
      count = border runs level (k + 1) - border runs level k;
      place = layout level k;
    }

-- the entries of node k of the level above this one: its children's, in their order
abbrev pub inner_entries : List Run → Layout → ℕ → ℕ → List Entry
inner_entries runs layout level k =
    map (child_entry runs layout level) (range_with_len (k * fanout) (children (length runs) level k))

-- the words of node k of a level
abbrev pub words_at : List Run → Layout → ℕ → ℕ → List ℕ
words_at runs layout zero k = node_words Leaf (leaf_entries runs k)
words_at runs layout (suc level) k = node_words Inner (inner_entries runs layout level k)

-- The words show these nodes of the tree of these runs, whose root is of this level.
pub record ShowsAt (words : List ℕ) (runs : List Run) (top : ℕ) (layout : Layout) : Type 0 where
  pub root_level : IsTop (length runs) top
  pub nodes : (level k : ℕ) → Stands layout level k → HasNode (length runs) top level k
  pub parents : (level k : ℕ) → level < top → Stands layout level k → Stands layout (level + 1) (k / fanout)
  pub placed : (level k : ℕ) → Stands layout level k → IsNodeOf words (layout level k)
  pub says : (level k : ℕ) → Stands layout level k → node_at words (layout level k) ≡ words_at runs layout level k
  pub apart : (level k other j : ℕ) → Stands layout level k → layout level k ≡ layout other j
      → (level ≡ other) × (k ≡ j)

-- The words under this root show them: where nothing stands the root is 0.
pub record Shows (words : List ℕ) (root : ℕ) (runs : List Run) (layout : Layout) : Type 0 where
  pub top : ℕ
  pub root_is : root ≡ layout top 0
  pub shows : ShowsAt words runs top layout

-- the words show some part of the tree of these runs
abbrev pub ShowsTree : List ℕ → ℕ → List Run → Type 0
ShowsTree words root runs = (layout : Layout) × Shows words root runs layout

-- the leaf over block v stands
abbrev pub IsCovered : List Run → Layout → ℕ → Type 0
IsCovered runs layout v = (leaf : ℕ) × IsLeafOver runs v leaf × Stands layout 0 leaf

-- the address is that of a node that stands
abbrev pub IsOfTree : Layout → ℕ → Type 0
IsOfTree layout address = (level k : ℕ) × Stands layout level k × (address ≡ layout level k)
