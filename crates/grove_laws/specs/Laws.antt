-- Laws of the trees of all functions.
use Rattle.std.specs.Prelude.{◌≡◌, ℕ, ◌-◌, List, length, slice_set}
use Rattle.nesc_base.specs.Memory.{KnownMemory}
use Rattle.nesc_base.specs.Runs.{AreRuns}
use Rattle.nesc_base.specs.declared.runs.Run.{Run}
use Rattle.nesc_requests.specs.Machine.{most_functions}
use Rattle.host_memory.specs.Pool.{Pool, all_free}
use Rattle.tree_words.specs.Pools.{AreTaken}
use Rattle.tree_words.specs.Shown.{Layout, Shows, no_nodes}
use Rattle.tree_builder.specs.Building.{Builds}
use Rattle.tree_builder.specs.declared.building.Built.{Built}
use Rattle.tree_pruner.specs.Dropping.{GivesNodesBack}
use Rattle.tree_pruner.specs.Pruning.{TakesLeaf}
use Rattle.tree_pruner.specs.Reclaiming.{AreTrees, GivesUp, Grove, without_tree}
use Rattle.tree_pruner.specs.Roots.{IsFunction, Roots, no_roots, root_of}
use Rattle.tree_pruner.specs.declared.pruning.Pruned.{Pruned}
use Rattle.grove_laws.specs.Groves.{IsListOf, with_for}

-- The trees of all functions, of which f is one, each with its root in the list of roots.
pub record AreAllTrees (f : ℕ) (pool : Pool) (words : List ℕ) (roots : Roots) (runs : ℕ → List Run)
    (layouts : ℕ → Layout) : Type 0 where
  pub function : IsFunction f
  pub rooted : length roots ≡ most_functions
  pub trees : AreTrees pool words roots runs layouts

-- at first no function has a tree
abbrev pub HasNoTrees : ℕ → Type 0
HasNoTrees f =
    (nodes : ℕ) (words : List ℕ) (runs : ℕ → List Run) → IsFunction f
    → ((g : ℕ) → IsFunction g → AreRuns (runs g))
    → AreAllTrees f (all_free nodes) words no_roots runs (λ _. no_nodes)

-- they are so again when a path was built in the tree of f
abbrev pub KeptByBuilding : ℕ → Type 0
KeptByBuilding f =
    (old_pool new_pool : Pool) (old new : KnownMemory) (roots : Roots) (runs : ℕ → List Run) (layouts : ℕ → Layout)
    (v : ℕ) (built : Built) → AreAllTrees f old_pool old.words roots runs layouts
    → (builds : Builds (runs f) v (layouts f) old_pool new_pool old new built)
    → AreAllTrees f new_pool new.words (slice_set roots (f - 1) built.root) runs (with_for layouts f builds.new)

-- when a leaf of it was given back
abbrev pub KeptByPruning : ℕ → Type 0
KeptByPruning f =
    (old_pool new_pool : Pool) (old new : KnownMemory) (roots : Roots) (runs : ℕ → List Run) (layouts : ℕ → Layout)
    (v : ℕ) (pruned : Pruned) → AreAllTrees f old_pool old.words roots runs layouts
    → (takes : TakesLeaf (runs f) v (layouts f) old_pool new_pool old new pruned)
    → AreAllTrees f new_pool new.words (slice_set roots (f - 1) pruned.root) runs (with_for layouts f takes.new)

-- when it was given up
abbrev pub KeptByDropping : ℕ → Type 0
KeptByDropping f =
    (old new : Grove) (words : List ℕ) (runs : ℕ → List Run) (layouts : ℕ → Layout)
    → AreAllTrees f old.pool words old.roots runs layouts → GivesUp layouts f old new
    → AreAllTrees f new.pool words new.roots runs (without_tree f layouts)

-- when f has no tree, and its file has other runs
abbrev pub KeptWithoutTree : ℕ → Type 0
KeptWithoutTree f =
    (pool : Pool) (words : List ℕ) (roots : Roots) (runs : ℕ → List Run) (layouts : ℕ → Layout) (others : List Run)
    → AreAllTrees f pool words roots runs layouts → root_of roots f ≡ 0 → AreRuns others
    → AreAllTrees f pool words roots (with_for runs f others) layouts

-- whatever part of a tree words show, there is a list of its nodes
abbrev pub HasList : List ℕ → ℕ → List Run → Layout → Type 0
HasList words root runs layout = Shows words root runs layout → (nodes : List ℕ) × IsListOf layout nodes

-- where a tree whose nodes were taken is given back, the count is that of its nodes
abbrev pub CountsNodes : Layout → Type 0
CountsNodes layout =
    (nodes : List ℕ) (count : ℕ) (old new : Pool) → IsListOf layout nodes → AreTaken old layout
    → GivesNodesBack layout count old new → count ≡ length nodes
