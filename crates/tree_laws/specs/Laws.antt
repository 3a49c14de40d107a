-- Laws of trees and of walks over them.
use Rattle.std.specs.Prelude.{◌≡◌, ℕ, ◌+◌, ◌-◌, ◌≤◌, List, length, slice_get, Some}
use Rattle.nesc_base.specs.declared.runs.Area.{Area}
use Rattle.nesc_base.specs.declared.runs.Run.{Run}
use Rattle.tree_shape.specs.Shape.{node_over}
use Rattle.tree_words.specs.Shown.{Layout}
use Rattle.tree_walker.specs.declared.found.Found.{Found}
use Rattle.tree_walker.specs.Walking.{WalkOf}
use Rattle.tree_laws.specs.Paths.{Finds, ShowsPath, path_addresses}

-- there is one address for each level from the root's down to the lowest at which a node stands, in that order
pub record HasAddresses (layout : Layout) (top leaf lacking : ℕ) : Type 0 where
  pub many : length (path_addresses layout top leaf lacking) ≡ top + 1 - lacking
  pub each : (level down : ℕ) → level + down ≡ top → lacking ≤ level
      → slice_get (path_addresses layout top leaf lacking) down ≡ Some (layout level (node_over level leaf))

-- there is something to be found of each block
abbrev pub FindsSomething : List Run → ℕ → ℕ → Type 0
FindsSomething runs v lacking = (found : Found) × Finds runs v lacking found

-- the walk fetches the nodes of the path as far as they stand, and finds what is to be found
abbrev pub FollowsPath : List ℕ → ℕ → ℕ → Area → Type 0
FollowsPath words root v area =
    (runs : List Run) (layout : Layout) (top leaf lacking : ℕ) (found : Found)
    → ShowsPath words root v area runs layout top leaf lacking → Finds runs v lacking found
    → WalkOf words root v area found (path_addresses layout top leaf lacking)

-- whatever walk is taken, it is that one
abbrev pub FindsWhatStands : List ℕ → ℕ → ℕ → Area → Type 0
FindsWhatStands words root v area =
    (runs : List Run) (layout : Layout) (top leaf lacking : ℕ) (found : Found) (addresses : List ℕ)
    → ShowsPath words root v area runs layout top leaf lacking → WalkOf words root v area found addresses
    → Finds runs v lacking found × (addresses ≡ path_addresses layout top leaf lacking)
