-- The way down a tree to the leaf over a block.
use Rattle.std.specs.Prelude.{◌≡◌, ◌⊎◌, ℕ, ◌+◌, ◌*◌, ◌<◌, ◌≤◌, List}
use Rattle.nesc_base.specs.Files.{longest_file}
use Rattle.nesc_base.specs.Memory.{node_at}
use Rattle.nesc_base.specs.Runs.{AreRuns}
use Rattle.nesc_base.specs.declared.runs.Run.{Run}
use Rattle.extent_node.specs.Entries.{most_entries}
use Rattle.extent_node.specs.Rules.{Holds}
use Rattle.extent_node.specs.Words.{entry_at, kind_word, word}
use Rattle.extent_node.specs.declared.node.Kind.TheVariants.{Inner}
use Rattle.tree_shape.specs.Shape.{IsLeafOver, border, fanout, node_over}
use Rattle.tree_words.specs.Shown.{Layout, ShowsAt, Stands}
use Rattle.tree_pruner.specs.declared.finding.Place.{Place}

-- By words

-- these words are those of an inner node
abbrev pub IsInner : List ℕ → Type 0
IsInner words = word words 0 ≡ kind_word Inner

-- One of its entries holds block v, and each lies in a file and leads to a node in a memory of so many words.
pub record HasWayDown (node : List ℕ) (v size : ℕ) : Type 0 where
  pub few : word node 1 ≤ most_entries
  pub some : (i : ℕ) × (i < word node 1) × Holds (entry_at node i) v
  pub filed : (i : ℕ) → i < word node 1 → (entry_at node i).first + (entry_at node i).count ≤ longest_file
  pub inside : (i : ℕ) → i < word node 1 → (entry_at node i).place ≤ size

-- the entry holds block v
pub record IsEntryOver (node : List ℕ) (v i : ℕ) : Type 0 where
  pub among : i < word node 1
  pub holds : Holds (entry_at node i) v

-- the place is that to which the entry leads that holds block v, under the node at this address
pub record IsPlaceBelow (words : List ℕ) (node v : ℕ) (place : Place) : Type 0 where
  pub entry : IsEntryOver (node_at words node) v place.entry
  pub node_is : place.node ≡ (entry_at (node_at words node) place.entry).place
  pub parent_is : place.parent ≡ node
  pub from : place.lo ≡ (entry_at (node_at words node) place.entry).first
  pub to : place.hi
      ≡ (entry_at (node_at words node) place.entry).first + (entry_at (node_at words node) place.entry).count

-- In a tree

-- the node of a level hangs under this entry of the parent, which stands
pub record HangsAt (layout : Layout) (leaf level : ℕ) (place : Place) : Type 0 where
  pub stands : Stands layout (level + 1) (node_over (level + 1) leaf)
  pub parent_is : place.parent ≡ layout (level + 1) (node_over (level + 1) leaf)
  pub among : place.entry < fanout
  pub entry_is : node_over level leaf ≡ node_over (level + 1) leaf * fanout + place.entry

-- the place of the node of a level that leads to the leaf, which may not stand
pub record IsPlaceOver (runs : List Run) (top : ℕ) (layout : Layout) (leaf level : ℕ) (place : Place) : Type 0 where
  pub low : level ≤ top
  pub node_is : place.node ≡ layout level (node_over level leaf)
  pub from : place.lo ≡ border runs level (node_over level leaf)
  pub to : place.hi ≡ border runs level (node_over level leaf + 1)
  pub hangs : ((level ≡ top) × (place.parent ≡ 0)) ⊎ ((level < top) × HangsAt layout leaf level place)

-- the words show a tree, and the leaf is over block v
pub record LiesOver (words : List ℕ) (v : ℕ) (runs : List Run) (top : ℕ) (layout : Layout) (leaf : ℕ) : Type 0 where
  pub are_runs : AreRuns runs
  pub shows : ShowsAt words runs top layout
  pub over : IsLeafOver runs v leaf

-- the place is one on the way to the leaf over block v, not above this height
pub record HasPlaceOver (words : List ℕ) (place : Place) (v height : ℕ) : Type 0 where
  pub runs : List Run
  pub top : ℕ
  pub layout : Layout
  pub leaf : ℕ
  pub lies : LiesOver words v runs top layout leaf
  pub level : ℕ
  pub low : level ≤ height
  pub is : IsPlaceOver runs top layout leaf level place

-- the place of the leaf, or one with no node where it does not stand
abbrev pub IsLeafPlace : List Run → ℕ → Layout → ℕ → Place → Type 0
IsLeafPlace runs top layout leaf place =
    (Stands layout 0 leaf × (place.node ≡ layout 0 leaf) × IsPlaceOver runs top layout leaf 0 place)
    ⊎ (¬ Stands layout 0 leaf × (place.node ≡ 0))

-- on whatever way the place was, the other is that of its leaf
abbrev pub FindsLeaf : List ℕ → ℕ → Place → Place → Type 0
FindsLeaf words v place found =
    (runs : List Run) (top : ℕ) (layout : Layout) (leaf level : ℕ) → LiesOver words v runs top layout leaf
    → IsPlaceOver runs top layout leaf level place → IsLeafPlace runs top layout leaf found
