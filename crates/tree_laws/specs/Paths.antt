-- Which nodes a walk to a block meets where words show a tree, and what it finds.
use Rattle.std.specs.Prelude.{◌≡◌, ℕ, zero, suc, ◌+◌, ◌-◌, ◌≤◌, List, [], ◌∷◌, length, take, slice_get, Some}
use Rattle.nesc_base.specs.Runs.{AreRuns, IsIn}
use Rattle.nesc_base.specs.declared.runs.Area.{Area}
use Rattle.nesc_base.specs.declared.runs.Run.{Run}
use Rattle.extent_node.specs.Rules.{LiesIn}
use Rattle.tree_shape.specs.Shape.{IsLeafOver, IsTop, node_over, span}
use Rattle.tree_words.specs.Changed.{Lacks}
use Rattle.tree_words.specs.Shown.{Layout, Shows}
use Rattle.tree_walker.specs.declared.found.Found.{Found}
use Rattle.tree_walker.specs.declared.found.Found.TheVariants.{Bad, Hole, Mapped, Pruned}

-- where the nodes that lead to a leaf stand, from the one of this level down to the leaf
abbrev pub addresses_down : Layout → ℕ → ℕ → List ℕ
addresses_down layout zero leaf = layout 0 leaf ∷ []
addresses_down layout (suc level) leaf =
    layout (suc level) (node_over (suc level) leaf) ∷ addresses_down layout level leaf

-- from the root's level down, without the lowest so many, which do not stand
abbrev pub path_addresses : Layout → ℕ → ℕ → ℕ → List ℕ
path_addresses layout top leaf lacking = take (top + 1 - lacking) (addresses_down layout top leaf)

-- block v stands in this run of the file
abbrev pub HasRun : List Run → ℕ → Run → Type 0
HasRun runs v run = (j at : ℕ) × (slice_get runs j ≡ Some run) × IsIn run v at

-- it stands in no run
abbrev pub HasNoRun : List Run → ℕ → Type 0
HasNoRun runs v = (j : ℕ) (run : Run) (at : ℕ) → slice_get runs j ≡ Some run → ¬ IsIn run v at

-- What there is to be found of block v where the lowest so many nodes that lead to it do not stand: its run, or that it
-- has none, where they all stand.
abbrev pub Finds : List Run → ℕ → ℕ → Found → Type 0
Finds runs v zero (Mapped run) = HasRun runs v run
Finds runs v zero Hole = HasNoRun runs v
Finds runs v zero Pruned = ⊥
Finds runs v zero (Bad bad) = ⊥
Finds runs v (suc lacking) found = found ≡ Pruned

-- The words under this root show the tree of these runs, or a part of it. Of the nodes that lead to the leaf over block
-- v the lowest so many do not stand.
pub record ShowsPath (words : List ℕ) (root v : ℕ) (area : Area) (runs : List Run) (layout : Layout)
    (top leaf lacking : ℕ) : Type 0 where
  pub are_runs : AreRuns runs
  -- no more than lie under a root from which a walk comes to a leaf
  pub few : length runs ≤ span 4
  pub inside : (j : ℕ) (run : Run) → slice_get runs j ≡ Some run → LiesIn area run.place run.count
  pub shows : Shows words root runs layout
  pub root_level : IsTop (length runs) top
  pub over : IsLeafOver runs v leaf
  pub lacks : Lacks top leaf layout lacking
