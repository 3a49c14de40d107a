-- What stands after nodes came or went.
use Rattle.std.specs.Prelude.{◌≡◌, ◌≢◌, ◌⊎◌, ℕ, ◌+◌, ◌<◌, ◌≤◌, ◌==◌, ◌&&◌}
use Rattle.std.specs.Prelude.{List, ◌++◌, length, take, drop, if◌then◌else◌}
use Rattle.nesc_base.specs.Memory.{IsNodeOf, KnownMemory, node_at}
use Rattle.tree_shape.specs.Shape.{node_over}
use Rattle.tree_words.specs.Shown.{IsOfTree, Layout, Stands}

-- the node of a level leads to the leaf
abbrev pub LeadsTo : ℕ → ℕ → ℕ → ℕ → Type 0
LeadsTo top leaf level k = (level ≤ top) × (k ≡ node_over level leaf)

-- The nodes that lead to the leaf stand now, those that stood before where they were, and so does every other.
pub record Adds (top leaf : ℕ) (old new : Layout) : Type 0 where
  pub path : (level : ℕ) → level ≤ top → Stands new level (node_over level leaf)
  pub stay : (level k : ℕ) → Stands old level k → new level k ≡ old level k
  pub no_other : (level k : ℕ) → Stands new level k → Stands old level k ⊎ LeadsTo top leaf level k

-- The leaf does not stand any more; every other node stands where it did.
pub record TakesAway (leaf : ℕ) (old new : Layout) : Type 0 where
  pub gone : new 0 leaf ≡ 0
  pub others : (level k : ℕ) → (level ≢ 0) ⊎ (k ≢ leaf) → new level k ≡ old level k

-- Of the nodes that lead to the leaf, the lowest so many do not stand, and all above them do.
pub record Lacks (top leaf : ℕ) (layout : Layout) (lacking : ℕ) : Type 0 where
  pub most : lacking ≤ top + 1
  pub lack : (level : ℕ) → level < lacking → layout level (node_over level leaf) ≡ 0
  pub have : (level : ℕ) → lacking ≤ level → level ≤ top → Stands layout level (node_over level leaf)

-- nothing but words has changed
abbrev pub WritesWords : KnownMemory → KnownMemory → Type 0
WritesWords old new = new ≡ record old { words = new.words }

-- no node but those of this tree has other words than before
pub record KeepsOthers (layout : Layout) (old new : List ℕ) : Type 0 where
  pub size : length new ≡ length old
  pub others : (address : ℕ) → IsNodeOf old address → ¬ IsOfTree layout address
      → node_at new address ≡ node_at old address

-- the node of this level and number stands at this address now
abbrev pub with_node : Layout → ℕ → ℕ → ℕ → Layout
with_node layout level k address other j = if other == level && j == k then address else layout other j

-- the words from an address on are these now
abbrev pub with_words : List ℕ → ℕ → List ℕ → List ℕ
with_words words address put = take address words ++ put ++ drop (address + length put) words
