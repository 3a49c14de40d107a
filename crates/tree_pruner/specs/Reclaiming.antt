-- Whole trees are given up until enough nodes are free.
use Rattle.std.specs.Prelude.{◌≡◌, ◌≢◌, ◌⊎◌, ◌↔◌, ℕ, ◌+◌, ◌-◌, ◌^◌, ◌<◌, ◌≤◌, ◌==◌, if◌then◌else◌}
use Rattle.std.specs.Prelude.{List, [], ◌∷◌, length, slice_set}
use Rattle.nesc_base.specs.Memory.{KnownMemory}
use Rattle.nesc_base.specs.Runs.{AreRuns}
use Rattle.nesc_base.specs.declared.runs.Run.{Run}
use Rattle.nesc_requests.specs.Machine.{most_functions}
use Rattle.plain_machine.specs.Functions.{in_turn}
use Rattle.host_memory.specs.Pool.{IsTaken, Pool, free_of}
use Rattle.tree_words.specs.Shown.{IsOfTree, Layout, Shows, no_nodes}
use Rattle.tree_pruner.specs.Dropping.{DropsTree, GivesNodesBack}
use Rattle.tree_pruner.specs.Roots.{IsFunction, Roots, root_of}

-- The trees of all functions, each as much of it as stands: no two share a node, and nothing else is taken.
pub record AreTrees (pool : Pool) (words : List ℕ) (roots : Roots) (runs : ℕ → List Run)
    (layouts : ℕ → Layout) : Type 0 where
  pub are_runs : (f : ℕ) → IsFunction f → AreRuns (runs f)
  pub shows : (f : ℕ) → IsFunction f → Shows words (root_of roots f) (runs f) (layouts f)
  pub apart : (f g address : ℕ) → IsFunction f → IsFunction g → IsOfTree (layouts f) address
      → IsOfTree (layouts g) address → f ≡ g
  pub taken : (address : ℕ) → IsTaken pool address ↔ ((f : ℕ) × IsFunction f × IsOfTree (layouts f) address)

-- the pool and the roots
pub record Grove : Type 0 where
  pub pool : Pool
  pub roots : Roots

-- function g had a tree, and has given it up
pub record GivesUp (layouts : ℕ → Layout) (g : ℕ) (old new : Grove) : Type 0 where
  pub stood : root_of old.roots g ≢ 0
  pub count : ℕ
  pub nodes : GivesNodesBack (layouts g) count old.pool new.pool
  pub root : new.roots ≡ slice_set old.roots (g - 1) 0

-- the tree under a function's root has gone, and this is the function's bit
pub record DropsRoot (words : List ℕ) (g bit : ℕ) (old new : Grove) : Type 0 where
  pub stood : root_of old.roots g ≢ 0
  pub bit_is : bit ≡ 2 ^ (g - 1)
  pub count : ℕ
  pub drops : DropsTree words (root_of old.roots g) count old.pool new.pool
  pub root : new.roots ≡ slice_set old.roots (g - 1) 0

-- a function that has a tree gives it up; one that has none changes nothing, and no bit is named
abbrev pub TakesTurn : List ℕ → ℕ → ℕ → Grove → Grove → Type 0
TakesTurn words g bit old new = ((root_of old.roots g ≡ 0) × (bit ≡ 0) × (new ≡ old)) ⊎ DropsRoot words g bit old new

-- Functions give up their trees in this order, those that have one, until so many nodes are free; these are they.
abbrev pub Reclaims : (ℕ → Layout) → ℕ → List ℕ → Grove → List ℕ → Grove → Type 0
Reclaims layouts needed [] old victims new = (victims ≡ []) × (new ≡ old)
Reclaims layouts needed (g ∷ later) old victims new =
    ((needed ≤ free_of old.pool) × (victims ≡ []) × (new ≡ old))
    ⊎ ((free_of old.pool < needed) × (root_of old.roots g ≡ 0) × Reclaims layouts needed later old victims new)
    ⊎ ((free_of old.pool < needed)
    × ((next : Grove) × (others : List ℕ) × GivesUp layouts g old next × (victims ≡ g ∷ others)
    × Reclaims layouts needed later next others new))

-- the order in which functions give up their trees for function f: those after it, from there around, and it last
abbrev pub turn_of : ℕ → List ℕ
turn_of f = in_turn f most_functions

-- a bit for each of these functions, the lowest for the first
abbrev pub mask_of : List ℕ → ℕ
mask_of [] = 0
mask_of (g ∷ others) = 2 ^ (g - 1) + mask_of others

-- the trees of all functions, but that function g has none any more
abbrev pub without_tree : ℕ → (ℕ → Layout) → ℕ → Layout
without_tree g layouts f = if f == g then no_nodes else layouts f

-- those that are left when these functions have given up theirs
abbrev pub without_trees : List ℕ → (ℕ → Layout) → ℕ → Layout
without_trees [] layouts = layouts
without_trees (g ∷ others) layouts = without_trees others (without_tree g layouts)

-- Trees may be given up for so many nodes.
pub record MayReclaim (pool : Pool) (memory : KnownMemory) (roots : Roots) (f needed : ℕ) : Type 0 where
  pub runs : ℕ → List Run
  pub layouts : ℕ → Layout
  pub trees : AreTrees pool memory.words roots runs layouts
  pub function : IsFunction f
  pub within : needed ≤ length pool.taken

-- The functions of this mask gave up their trees, enough nodes are free, and the words still show all other trees. The
-- pool has as many nodes as before, and there are as many roots.
pub record ReclaimsFor (runs : ℕ → List Run) (layouts : ℕ → Layout) (f needed mask : ℕ) (words : List ℕ)
    (old new : Grove) : Type 0 where
  pub victims : List ℕ
  pub reclaims : Reclaims layouts needed (turn_of f) old victims new
  pub mask_is : mask ≡ mask_of victims
  pub enough : needed ≤ free_of new.pool
  pub left : AreTrees new.pool words new.roots runs (without_trees victims layouts)
  pub as_many : length new.pool.taken ≡ length old.pool.taken
  pub rooted : length new.roots ≡ length old.roots

-- whatever trees there were
abbrev pub ReclaimsTrees : ℕ → ℕ → ℕ → List ℕ → Grove → Grove → Type 0
ReclaimsTrees f needed mask words old new =
    (runs : ℕ → List Run) (layouts : ℕ → Layout) → AreTrees old.pool words old.roots runs layouts
    → ReclaimsFor runs layouts f needed mask words old new
