-- Laws of words that show trees.
use Rattle.std.specs.Prelude.{◌≡◌, ◌≢◌, ◌⊎◌, ◌↔◌, ℕ, ◌+◌, ◌-◌, ◌*◌, ◌/◌, ◌%◌, ◌^◌}
use Rattle.std.specs.Prelude.{◌<◌, ◌≤◌, List, length, Some, slice_get, slice_set}
use Rattle.nesc_base.specs.Memory.{IsNodeOf, node_at, node_size}
use Rattle.nesc_base.specs.declared.runs.Run.{Run}
use Rattle.host_memory.specs.Pool.{IsFree, Pool}
use Rattle.extent_node.specs.Rules.{AreInnerEntries, AreLeafEntries}
use Rattle.extent_node.specs.Words.{AreReadable, count_word, first_word, place_word}
use Rattle.tree_shape.specs.Shape.{border, children, fanout, leaf_runs, node_over, width}
use Rattle.tree_words.specs.Changed.{Adds, Lacks, TakesAway, with_node, with_words}
use Rattle.tree_words.specs.Pools.{AreTaken}
use Rattle.tree_words.specs.Shown.{IsOfTree, Layout, Shows, ShowsAt, Stands, inner_entries, leaf_entries, words_at}

-- What words show

-- the same nodes stand at the same addresses
abbrev pub Agree : Layout → Layout → Type 0
Agree one other = (level k : ℕ) → one level k ≡ other level k

-- words show one part of the tree of these runs under a root, and no other
abbrev pub ShowOneLayout : List ℕ → ℕ → List Run → Type 0
ShowOneLayout words root runs =
    (one other : Layout) → Shows words root runs one → Shows words root runs other → Agree one other

-- each node that stands has the same words as before
abbrev pub KeepsNodes : Layout → List ℕ → List ℕ → Type 0
KeepsNodes layout old new =
    (level k : ℕ) → Stands layout level k → node_at new (layout level k) ≡ node_at old (layout level k)

-- what is shown stays shown while each of its nodes keeps its words
abbrev pub StaysShown : List ℕ → List ℕ → Type 0
StaysShown old new =
    (root : ℕ) (runs : List Run) (layout : Layout) → length old ≤ length new → KeepsNodes layout old new
    → Shows old root runs layout → Shows new root runs layout

-- Entries and words

-- the entries of each node keep the rules
pub record KeepEntryRules (runs : List Run) (layout : Layout) : Type 0 where
  pub leaf : (k : ℕ) → AreLeafEntries (leaf_entries runs k)
  pub inner : (level k : ℕ) → k < width (length runs) (level + 1) → AreInnerEntries (inner_entries runs layout level k)

-- each address is a number of 32 bits
abbrev pub HasLowAddresses : Layout → Type 0
HasLowAddresses layout = (level k : ℕ) → layout level k < 2 ^ 32

-- then entries can be read out of the words of each node
abbrev pub HasReadableWords : List Run → Layout → Type 0
HasReadableWords runs layout = HasLowAddresses layout → (level k : ℕ) → AreReadable (words_at runs layout level k)

-- Node k of the level above this one says its kind, how many children it has, and of each what it covers and where it
-- stands.
pub record SaysChildren (runs : List Run) (layout : Layout) (level k : ℕ) : Type 0 where
  pub size : length (words_at runs layout (level + 1) k) ≡ node_size
  pub kind : slice_get (words_at runs layout (level + 1) k) 0 ≡ Some 2
  pub number : slice_get (words_at runs layout (level + 1) k) 1 ≡ Some (children (length runs) level k)
  pub first : (i : ℕ) → i < children (length runs) level k
      → slice_get (words_at runs layout (level + 1) k) (first_word i) ≡ Some (border runs level (k * fanout + i))
  pub count : (i : ℕ) → i < children (length runs) level k
      → slice_get (words_at runs layout (level + 1) k) (count_word i)
      ≡ Some (border runs level (k * fanout + i + 1) - border runs level (k * fanout + i))
  pub place : (i : ℕ) → i < children (length runs) level k
      → slice_get (words_at runs layout (level + 1) k) (place_word i) ≡ Some (layout level (k * fanout + i))

-- leaf k says its kind and how many runs it has
pub record SaysRuns (runs : List Run) (layout : Layout) (k : ℕ) : Type 0 where
  pub size : length (words_at runs layout 0 k) ≡ node_size
  pub kind : slice_get (words_at runs layout 0 k) 0 ≡ Some 1
  pub number : slice_get (words_at runs layout 0 k) 1 ≡ Some (length (leaf_runs runs k))

-- putting a child's address into the words of its parent makes them the words where the child stands there
abbrev pub LinksChild : List Run → Layout → ℕ → ℕ → Type 0
LinksChild runs layout level k =
    (i address : ℕ) → i < children (length runs) level k
    → slice_set (words_at runs layout (level + 1) k) (place_word i) address
    ≡ words_at runs (with_node layout level (k * fanout + i) address) (level + 1) k

-- the children of node k of the level above this one stand at the same addresses
abbrev pub AgreeBelow : List Run → Layout → Layout → ℕ → ℕ → Type 0
AgreeBelow runs one other level k =
    (i : ℕ) → i < children (length runs) level k → one level (k * fanout + i) ≡ other level (k * fanout + i)

-- the words of a node say nothing but where its children stand
pub record AreLocal (runs : List Run) (one other : Layout) : Type 0 where
  pub leaf : (k : ℕ) → words_at runs one 0 k ≡ words_at runs other 0 k
  pub inner : (level k : ℕ) → AgreeBelow runs one other level k
      → words_at runs one (level + 1) k ≡ words_at runs other (level + 1) k

-- Paths

-- Where a node of the path to a leaf stands, so do all those above it, up to the root. One number says how many of the
-- path's nodes do not stand: 0 where the leaf stands, and all of them where there is no root.
pub record HasOneLack (top leaf : ℕ) (layout : Layout) : Type 0 where
  pub above : (low high : ℕ) → low ≤ high → high ≤ top → Stands layout low (node_over low leaf)
      → Stands layout high (node_over high leaf)
  pub some : (lacking : ℕ) × Lacks top leaf layout lacking
  pub one : (one other : ℕ) → Lacks top leaf layout one → Lacks top leaf layout other → one ≡ other
  pub none : Lacks top leaf layout 0 ↔ Stands layout 0 leaf
  pub all : layout top 0 ≡ 0 → Lacks top leaf layout (top + 1)

-- where there is no root, nothing stands
abbrev pub StandsOnRoot : List ℕ → List Run → Type 0
StandsOnRoot words runs =
    (layout : Layout) → Shows words 0 runs layout → (level k : ℕ) → layout level k ≡ 0

-- Words of nodes

-- The words put at a node's address are its words then, and no other node's have changed.
pub record PutsNode (words : List ℕ) (node : ℕ) (put : List ℕ) : Type 0 where
  pub size : length (with_words words node put) ≡ length words
  pub here : node_at (with_words words node put) node ≡ put
  pub others : (other : ℕ) → IsNodeOf words other → other ≢ node
      → node_at (with_words words node put) other ≡ node_at words other

-- Word j of the node is another one now, and no other node's words have changed.
pub record PutsWord (words : List ℕ) (node j word : ℕ) : Type 0 where
  pub size : length (slice_set words (node + j) word) ≡ length words
  pub here : node_at (slice_set words (node + j) word) node ≡ slice_set (node_at words node) j word
  pub others : (other : ℕ) → IsNodeOf words other → other ≢ node
      → node_at (slice_set words (node + j) word) other ≡ node_at words other

-- Nodes that come and go

-- The path to a leaf was built: words of old nodes are as before, but that the lowest old one of the path says where
-- its child stands, and each new node has its words.
pub record PathBuilt (old_words new_words : List ℕ) (runs : List Run) (top leaf high : ℕ)
    (old new : Layout) : Type 0 where
  pub adds : Adds top leaf old new
  -- the nodes of the path that are new are those up to this level
  pub lacks : Lacks top leaf old (high + 1)
  pub placed : (level k : ℕ) → Stands new level k → IsNodeOf new_words (new level k)
  pub apart : (level k other j : ℕ) → Stands new level k → new level k ≡ new other j → (level ≡ other) × (k ≡ j)
  pub path : (level : ℕ) → level ≤ high
      → node_at new_words (new level (node_over level leaf)) ≡ words_at runs new level (node_over level leaf)
  pub link : high < top
      → node_at new_words (old (high + 1) (node_over (high + 1) leaf))
      ≡ slice_set (node_at old_words (old (high + 1) (node_over (high + 1) leaf)))
      (place_word (node_over high leaf % fanout)) (new high (node_over high leaf))
  pub kept : (level k : ℕ) → Stands old level k → (level ≢ high + 1) ⊎ (k ≢ node_over (high + 1) leaf)
      → node_at new_words (old level k) ≡ node_at old_words (old level k)

-- then the words show the tree with the path
abbrev pub GivesPath : List ℕ → List ℕ → List Run → ℕ → ℕ → Type 0
GivesPath old_words new_words runs top leaf =
    (high : ℕ) (old new : Layout) → leaf < width (length runs) 0 → ShowsAt old_words runs top old
    → PathBuilt old_words new_words runs top leaf high old new → ShowsAt new_words runs top new

-- A leaf was taken away: words of the nodes that still stand are as before, but that the leaf's parent says that it
-- does not stand.
pub record LeafTaken (old_words new_words : List ℕ) (top leaf : ℕ) (old new : Layout) : Type 0 where
  pub takes : TakesAway leaf old new
  pub stood : Stands old 0 leaf
  pub size : length old_words ≤ length new_words
  pub unlink : 0 < top
      → node_at new_words (old 1 (leaf / fanout))
      ≡ slice_set (node_at old_words (old 1 (leaf / fanout))) (place_word (leaf % fanout)) 0
  pub kept : (level k : ℕ) → Stands new level k → (level ≢ 1) ⊎ (k ≢ leaf / fanout)
      → node_at new_words (old level k) ≡ node_at old_words (old level k)

-- then the words show the tree without it
abbrev pub TakesLeaf : List ℕ → List ℕ → List Run → ℕ → ℕ → Type 0
TakesLeaf old_words new_words runs top leaf =
    (old new : Layout) → ShowsAt old_words runs top old → LeafTaken old_words new_words top leaf old new
    → ShowsAt new_words runs top new

-- Pools

-- no node is of both trees
abbrev pub AreApart : Layout → Layout → Type 0
AreApart one other = (address : ℕ) → IsOfTree one address → ¬ IsOfTree other address

-- each node of the one was the other's before, or was free
abbrev pub GrowsFrom : Pool → Layout → Layout → Type 0
GrowsFrom pool old new = (level k : ℕ) → Stands new level k → IsOfTree old (new level k) ⊎ IsFree pool (new level k)

-- a tree that grows by free nodes stays apart from one whose nodes are taken
abbrev pub StayApart : Pool → Layout → Type 0
StayApart pool other =
    (old new : Layout) → AreTaken pool other → AreApart old other → GrowsFrom pool old new → AreApart new other
