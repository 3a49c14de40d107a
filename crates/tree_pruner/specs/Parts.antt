-- A part of a tree: a node, and all that stand under it.
use Rattle.std.specs.Prelude.{◌≡◌, ◌⊎◌, ◌↔◌, ℕ, zero, suc, ◌+◌, ◌*◌, ◌<◌, ◌≤◌, ◌==◌, List, length, if◌then◌else◌}
use Rattle.nesc_base.specs.declared.runs.Run.{Run}
use Rattle.extent_node.specs.Words.{kind_word, word}
use Rattle.extent_node.specs.declared.node.Kind.TheVariants.{Inner}
use Rattle.host_memory.specs.Pool.{IsTaken, Pool, free_of}
use Rattle.tree_shape.specs.Shape.{fanout}
use Rattle.tree_words.specs.Shown.{Layout, ShowsAt, Stands}

-- node k of a level stands, and the address is its own or that of a node that stands under it
abbrev pub IsInPart : Layout → ℕ → ℕ → ℕ → Type 0
IsInPart layout zero k address = Stands layout zero k × (address ≡ layout zero k)
IsInPart layout (suc level) k address =
    Stands layout (suc level) k
    × ((address ≡ layout (suc level) k) ⊎ ((c : ℕ) × (c < fanout) × IsInPart layout level (k * fanout + c) address))

-- the address is that of a node under one of the first so many entries of node k of a level
abbrev pub IsBelow : Layout → ℕ → ℕ → ℕ → ℕ → Type 0
IsBelow layout zero k count address = ⊥
IsBelow layout (suc level) k count address = (c : ℕ) × (c < count) × IsInPart layout level (k * fanout + c) address

-- the nodes at these addresses are free now, and each other is as before
pub record Frees (Given : ℕ → Type 0) (old new : Pool) : Type 0 where
  pub each : (address : ℕ) → IsTaken new address ↔ (IsTaken old address × ¬ Given address)
  pub more : free_of old ≤ free_of new
  pub as_many : length new.taken ≡ length old.taken

-- how many nodes may hang under a node, by its words: a leaf has none
abbrev pub hanging : List ℕ → ℕ
hanging words = if word words 0 == kind_word Inner then word words 1 else 0

-- The node at this address, or no node where it is 0, is one of a tree that the words show, not above this height, and
-- all of its part is taken.
pub record HasPart (pool : Pool) (words : List ℕ) (node height : ℕ) : Type 0 where
  pub runs : List Run
  pub top : ℕ
  pub layout : Layout
  pub shows : ShowsAt words runs top layout
  pub level : ℕ
  pub k : ℕ
  pub low : level ≤ height
  pub is : node ≡ layout level k
  pub taken : (address : ℕ) → IsInPart layout level k address → IsTaken pool address

-- of whatever tree it was a node, its part is free now
abbrev pub DropsPart : List ℕ → ℕ → Pool → Pool → Type 0
DropsPart words node old new =
    (runs : List Run) (top : ℕ) (layout : Layout) (level k : ℕ) → ShowsAt words runs top layout → node ≡ layout level k
    → Frees (IsInPart layout level k) old new
