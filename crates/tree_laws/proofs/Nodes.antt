-- The words of a node that stands are a node's, and which of its entries has a block.
use Rattle.std.proofs.Common.{◌≡◌, inl, inr, ℕ, suc, ◌+◌, ◌-◌, ◌*◌, ◌/◌, ◌%◌, ◌<◌, List, map, length, None, Option, Some, slice_get, refl, sym, ap, subst, ◌∙◌, add-one, arith}
use Rattle.std.specs.List.{range_with_len}
use Rattle.std.specs.Option.{option_map}
use Rattle.std.proofs.lemmas.List.FromFn.{get_or-range_with_len, length-range_with_len}
use Rattle.std.proofs.lemmas.Option.{none-some, same_Some, slice_get-get_or, slice_get-map, slice_get_within}
use Rattle.nesc_base.specs.Memory.{node_at}
use Rattle.nesc_base.specs.Runs.{AreRuns}
use Rattle.nesc_base.specs.declared.runs.Area.{Area}
use Rattle.nesc_base.specs.declared.runs.Run.{Run}
use Rattle.extent_node.specs.Rules.{HasHolding, Holds, HoldsNone, IsChildIn, IsNode, LiesIn}
use Rattle.extent_node.specs.declared.entries.Entry.{Entry}
use Rattle.extent_node.specs.declared.node.Kind.TheVariants.{Inner, Leaf}
use Rattle.tree_shape.specs.Shape.{Covers, HasNode, IsLeafOver, children, fanout, leaf_runs, width}
use Rattle.tree_shape.proofs.Leaves.{leads_to_runs, leaf_at, leaf_length, stands_in_leaf}
use Rattle.tree_shape.proofs.Paths.{leaf_one}
use Rattle.tree_words.specs.Shown.{Layout, ShowsAt, Stands, child_entry, inner_entries, leaf_entries, leaf_entry}
use Rattle.tree_words.proofs.NodeWords.{is_child, keep_entry_rules}
use Rattle.tree_words.proofs.Showing.{stands_or_not}
use Rattle.tree_walker.specs.Walking.{IsHolder, leaf_says}
use Rattle.tree_walker.specs.declared.found.Found.{Found}
use Rattle.tree_walker.specs.declared.found.Found.TheVariants.{Bad, Hole, Mapped, Pruned}
use Rattle.tree_laws.specs.Paths.{Finds, HasNoRun, HasRun}

-- Lists that are made of others

made_of : {X Y : Type 0} (f : X → Y) (o : Option X) (y : Y) → option_map f o ≡ Some y → (x : X) × (o ≡ Some x) × (f x ≡ y)
made_of f None y is = absurd (none-some y is)
made_of f (Some x) y is = (x, refl, same_Some (f x) y is)

mapped_of : {X Y : Type 0} (f : X → Y) (xs : List X) (i : ℕ) (y : Y) → slice_get (map f xs) i ≡ Some y
    → (x : X) × (slice_get xs i ≡ Some x) × (f x ≡ y)
mapped_of f xs i y is = made_of f (slice_get xs i) y (sym (slice_get-map f xs i) ∙ is)

mapped_at : {X Y : Type 0} (f : X → Y) (xs : List X) (i : ℕ) (x : X) → slice_get xs i ≡ Some x → slice_get (map f xs) i ≡ Some (f x)
mapped_at f xs i x is = slice_get-map f xs i ∙ ap (λ (o : Option _). option_map f o) is

number_at : (a n i : ℕ) → i < n → slice_get (range_with_len a n) i ≡ Some (a + i)
number_at a n i within =
    let less : i < length (range_with_len a n) = omega (arith, length-range_with_len a n) in
    slice_get-get_or (range_with_len a n) i 0 less ∙ ap (λ (k : ℕ). Some k) (get_or-range_with_len a n i 0 within)

-- Leaves

-- entry j of a leaf is for the run there
leaf_entry_of : (runs : List Run) (leaf j : ℕ) (entry : Entry) → slice_get (leaf_entries runs leaf) j ≡ Some entry
    → (run : Run) × (slice_get (leaf_runs runs leaf) j ≡ Some run) × (slice_get runs (leaf * fanout + j) ≡ Some run) × (leaf_entry run ≡ entry)
leaf_entry_of runs leaf j entry is =
    let of = mapped_of leaf_entry (leaf_runs runs leaf) j entry is in
    let within : j < fanout = omega (arith, slice_get_within (leaf_runs runs leaf) j of.0 of.1, leaf_length runs leaf) in
    (of.0, of.1, sym (leaf_at runs leaf j within) ∙ of.1, of.2)

pub leaf_node : (words : List ℕ) (runs : List Run) (top : ℕ) (layout : Layout) (area : Area) → AreRuns runs
    → ((j : ℕ) (run : Run) → slice_get runs j ≡ Some run → LiesIn area run.place run.count)
    → ShowsAt words runs top layout → (leaf : ℕ) → Stands layout 0 leaf
    → IsNode (node_at words (layout 0 leaf)) (length words) area Leaf (leaf_entries runs leaf)
leaf_node words runs top layout area are inside shows leaf stands = record {
  says = shows.says 0 leaf stands;
  are = (keep_entry_rules runs layout are).leaf leaf;
  inside = λ j entry is.
      let of = leaf_entry_of runs leaf j entry is in
      subst (λ (e : Entry). LiesIn area e.place e.count) of.3 (inside (leaf * fanout + j) of.0 of.2);
}

-- a run that has the block is an entry of the leaf over it
leaf_holds : (runs : List Run) (v leaf : ℕ) (run : Run) → AreRuns runs → IsLeafOver runs v leaf → HasRun runs v run
    → HasHolding (leaf_entries runs leaf) v (leaf_entry run)
leaf_holds runs v leaf run are over (j, at, is, isin) =
    let leads = leads_to_runs runs are j run v at is isin in
    let same : j / fanout ≡ leaf = leaf_one runs are v (j / fanout) leaf leads over in
    let stands : slice_get (leaf_runs runs leaf) (j % fanout) ≡ Some run =
    ap (λ (k : ℕ). slice_get (leaf_runs runs k) (j % fanout)) (sym same) ∙ stands_in_leaf runs j ∙ is in
    (j % fanout, mapped_at leaf_entry (leaf_runs runs leaf) (j % fanout) run stands, record { from = isin.from; below = isin.below })

leaf_holds_none : (runs : List Run) (v leaf : ℕ) → HasNoRun runs v → HoldsNone (leaf_entries runs leaf) v
leaf_holds_none runs v leaf none j entry is holds =
    let of = leaf_entry_of runs leaf j entry is in
    let has : Holds (leaf_entry of.0) v = subst (λ (e : Entry). Holds e v) (sym of.3) holds in
    none (leaf * fanout + j) of.0 (of.0.place + (v - of.0.first)) of.2
    (record { from = has.from; below = has.below; place = refl })

-- what the leaf says of the block is what is to be found of it
pub leaf_tells : (runs : List Run) (v leaf : ℕ) (found : Found) → AreRuns runs → IsLeafOver runs v leaf → Finds runs v 0 found
    → (holder : Option Entry) × IsHolder (leaf_entries runs leaf) v holder × (found ≡ leaf_says holder)
leaf_tells runs v leaf (Mapped run) are over has = (Some (leaf_entry run), leaf_holds runs v leaf run are over has, refl)
leaf_tells runs v leaf Hole are over none = (None, leaf_holds_none runs v leaf none, refl)
leaf_tells runs v leaf Pruned are over finds = absurd finds
leaf_tells runs v leaf (Bad bad) are over finds = absurd finds

-- Inner nodes

child_inside : (words : List ℕ) (runs : List Run) (top : ℕ) (layout : Layout) → ShowsAt words runs top layout
    → (level k : ℕ) → IsChildIn (length words) (layout level k)
child_inside words runs top layout shows level k = elim (stands_or_not layout level k) [
  | inl none ↦ inl none
  | inr stands ↦ (let placed = shows.placed level k stands in
      inr (record { some = stands; aligned = placed.aligned; within = placed.within }))
]

pub inner_node : (words : List ℕ) (runs : List Run) (top : ℕ) (layout : Layout) (area : Area) → AreRuns runs
    → ShowsAt words runs top layout → (level k : ℕ) → Stands layout (suc level) k
    → IsNode (node_at words (layout (suc level) k)) (length words) area Inner (inner_entries runs layout level k)
inner_node words runs top layout area are shows level k stands =
    let here : k < width (length runs) (suc level) = (shows.nodes (suc level) k stands).among in
    let there : k < width (length runs) (level + 1) = subst (λ (l : ℕ). k < width (length runs) l) (sym (add-one level)) here in
    record {
      says = shows.says (suc level) k stands;
      are = (keep_entry_rules runs layout are).inner level k there;
      inside = λ i entry is.
          let of = mapped_of (child_entry runs layout level) (range_with_len (k * fanout) (children (length runs) level k)) i entry is in
          subst (λ (e : Entry). IsChildIn (length words) e.place) of.2 (child_inside words runs top layout shows level of.0);
    }

-- the entry of the node that covers the block has it
pub inner_holds : (runs : List Run) (layout : Layout) (top v level c : ℕ) → HasNode (length runs) top level c → Covers runs level c v
    → HasHolding (inner_entries runs layout level (c / fanout)) v (child_entry runs layout level c)
inner_holds runs layout top v level c has covers =
    let k : ℕ = c / fanout in
    let many : ℕ = children (length runs) level k in
    let child = is_child runs top level c has in
    let stands : slice_get (range_with_len (k * fanout) many) (c % fanout) ≡ Some c =
    number_at (k * fanout) many (c % fanout) child.0 ∙ ap (λ (n : ℕ). Some n) child.1 in
    let from = covers.from in
    let below = covers.below in (
      c % fanout,
      mapped_at (child_entry runs layout level) (range_with_len (k * fanout) many) (c % fanout) c stands,
      record { from = from; below = omega arith },
    )
