-- The nodes that lead to a leaf.
use Rattle.std.proofs.Common.{◌≡◌, ℕ, zero, suc, ◌+◌, ◌/◌, ◌^◌, ◌<◌, ◌≤◌, List, length, Some, slice_get, refl, sym, ap, subst, ◌∙◌, add-one, arith}
use Rattle.std.proofs.Math.Nat.{div-div-eq-div-mul, pow-suc}
use Rattle.nesc_base.specs.declared.runs.Run.{Run}
use Rattle.nesc_base.specs.Files.{longest_file}
use Rattle.nesc_base.specs.Runs.{AreRuns}
use Rattle.tree_shape.specs.Laws.{HasPath, IsPath}
use Rattle.tree_shape.specs.Shape.{Covers, HasNode, IsLeafOver, IsTop, fanout, node_over, path}
use Rattle.tree_shape.proofs.Borders.{cover_one, cover_some, hangs_under}
use Rattle.tree_shape.proofs.Spans.{width_root}

-- there is a leaf over each block that a file may have, and no other
pub leaf_some : (runs : List Run) (v : ℕ) → v < longest_file → (leaf : ℕ) × IsLeafOver runs v leaf
leaf_some runs v filed = let found = cover_some runs 0 v filed in (found.0, record { has = found.1; covers = found.2 })

pub leaf_one : (runs : List Run) → AreRuns runs → (v leaf other : ℕ) → IsLeafOver runs v leaf → IsLeafOver runs v other → leaf ≡ other
leaf_one runs are v leaf other is isnt = cover_one runs are 0 leaf other v is.covers isnt.covers

pub over_leaf : (leaf : ℕ) → node_over 0 leaf ≡ leaf
over_leaf leaf = omega arith

pub over_above : (level leaf : ℕ) → node_over (level + 1) leaf ≡ node_over level leaf / fanout
over_above level leaf =
    ap (λ (p : ℕ). leaf / p) (ap (λ (m : ℕ). 10 ^ m) (add-one level) ∙ pow-suc 10 level) ∙ sym (div-div-eq-div-mul leaf (10 ^ level) 10)

-- the node is there and covers the block
record LeadsTo (runs : List Run) (top level k v : ℕ) : Type 0 where
  has : HasNode (length runs) top level k
  covers : Covers runs level k v

leads_above : (runs : List Run) (top level k v : ℕ) → AreRuns runs → LeadsTo runs top level k v → level < top → LeadsTo runs top (level + 1) (k / fanout) v
leads_above runs top level k v are leads less =
    let hangs = hangs_under runs top level k are leads.has less in
    let low = hangs.from in
    let high = hangs.to in
    let from = leads.covers.from in
    let below = leads.covers.below in
    record { has = hangs.has; covers = record { from = omega arith; below = omega arith } }

leads_to : (runs : List Run) (top v leaf : ℕ) → AreRuns runs → IsLeafOver runs v leaf → (level : ℕ) → level ≤ top → LeadsTo runs top level (node_over level leaf) v
leads_to runs top v leaf are is zero under =
    subst (λ (k : ℕ). LeadsTo runs top 0 k v) (sym (over_leaf leaf)) (record { has = record { at_level = under; among = is.has }; covers = is.covers })
leads_to runs top v leaf are is (suc level) under =
    let less : level < top = omega arith in
    let below : level ≤ top = omega arith in
    let above = leads_above runs top level (node_over level leaf) v are (leads_to runs top v leaf are is level below) less in
    let same = subst (λ (k : ℕ). LeadsTo runs top (level + 1) k v) (sym (over_above level leaf)) above in
    subst (λ (l : ℕ). LeadsTo runs top l (node_over l leaf) v) (add-one level) same

pub node_there : (runs : List Run) (top v leaf level : ℕ) → AreRuns runs → IsLeafOver runs v leaf → level ≤ top → HasNode (length runs) top level (node_over level leaf)
node_there runs top v leaf level are is under = (leads_to runs top v leaf are is level under).has

-- with no bound on the level: where it is above the root's, its one node covers all too
pub node_covers : (runs : List Run) (v leaf level : ℕ) → AreRuns runs → IsLeafOver runs v leaf → Covers runs level (node_over level leaf) v
node_covers runs v leaf level are is = let all : level ≤ level = omega arith in (leads_to runs level v leaf are is level all).covers

pub over_root : (runs : List Run) (top v leaf : ℕ) → AreRuns runs → IsTop (length runs) top → IsLeafOver runs v leaf → node_over top leaf ≡ 0
over_root runs top v leaf are at is =
    let all : top ≤ top = omega arith in
    let among = (node_there runs top v leaf top are is all).among in
    omega (arith, width_root (length runs) top at)

pub has_path : (runs : List Run) (top v leaf : ℕ) → AreRuns runs → IsTop (length runs) top → IsLeafOver runs v leaf → HasPath runs top v leaf
has_path runs top v leaf are at is = record {
  each = λ level under. (node_there runs top v leaf level are is under, node_covers runs v leaf level are is);
  alone = λ level k covers. cover_one runs are level k (node_over level leaf) v covers (node_covers runs v leaf level are is);
  lowest = over_leaf leaf;
  above = λ level. over_above level leaf;
  root = over_root runs top v leaf are at is;
}

path_long : (top leaf : ℕ) → length (path top leaf) ≡ top + 1
path_long zero leaf = refl
path_long (suc top) leaf = omega (arith, path_long top leaf)

path_each : (top leaf level down : ℕ) → level + down ≡ top → slice_get (path top leaf) down ≡ Some (node_over level leaf)
path_each zero leaf level zero e = let same : 0 ≡ level = omega arith in ap Some (sym (over_leaf leaf)) ∙ ap (λ (l : ℕ). Some (node_over l leaf)) same
path_each zero leaf level (suc down) e = absurd (omega arith)
path_each (suc top) leaf level zero e = let same : suc top ≡ level = omega arith in ap (λ (l : ℕ). Some (node_over l leaf)) same
path_each (suc top) leaf level (suc down) e = let less : level + down ≡ top = omega arith in path_each top leaf level down less

pub is_path : (top leaf : ℕ) → IsPath top leaf
is_path top leaf = record { long = path_long top leaf; each = λ level down e. path_each top leaf level down e }
