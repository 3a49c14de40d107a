-- A leaf goes from its tree.
use Rattle.std.proofs.Common.{◌≡◌, ◌≢◌, ◌⊎◌, inl, inr, ℕ, ◌+◌, ◌*◌, ◌/◌, ◌%◌, ◌<◌, ◌≤◌, ◌==◌, ◌&&◌, Bool, List, length, refl, sym, ap, subst, ◌∙◌, arith}
use Rattle.std.specs.Prelude.{if◌then◌else◌, slice_set}
use Rattle.std.proofs.Math.Bool.{and-false}
use Rattle.std.proofs.lemmas.Bool.{cases_eq, eq-eqb, ne_eqb}
use Rattle.nesc_base.specs.Files.{longest_file}
use Rattle.nesc_base.specs.Memory.{IsNodeOf, KnownMemory, Stores, node_at}
use Rattle.nesc_base.specs.Runs.{AreRuns}
use Rattle.nesc_base.specs.declared.runs.Run.{Run}
use Rattle.extent_node.specs.Words.{place_word}
use Rattle.host_memory.specs.Pool.{GivesBack, IsTaken, Pool}
use Rattle.tree_shape.specs.Shape.{border, fanout, node_over}
use Rattle.tree_shape.proofs.Borders.{border_within}
use Rattle.tree_shape.proofs.Paths.{leaf_some, over_above, over_leaf, over_root}
use Rattle.tree_words.specs.Changed.{TakesAway, WritesWords, with_node}
use Rattle.tree_words.specs.Laws.{LeafTaken, PutsWord}
use Rattle.tree_words.specs.Shown.{IsCovered, Layout, Shows, Stands}
use Rattle.tree_pruner.specs.Dropping.{HasTree}
use Rattle.tree_pruner.specs.Finding.{FindsLeaf, HangsAt, IsPlaceOver, LiesOver}
use Rattle.tree_pruner.specs.Pruning.{TakesLeaf}
use Rattle.tree_pruner.specs.declared.finding.Place.{Place}
use Rattle.tree_words.proofs.Places.{puts_word}
use Rattle.tree_words.proofs.Steps.{takes_leaf}
use Rattle.tree_pruner.proofs.WaysDown.{whole, whole_is}

-- The tree without the leaf

abbrev without : Layout → ℕ → Layout
without layout leaf = with_node layout 0 leaf 0

without_leaf : (layout : Layout) (leaf : ℕ) → without layout leaf 0 leaf ≡ 0
without_leaf layout leaf = ap (λ (b : Bool). if b then 0 else layout 0 leaf) (eq-eqb leaf leaf refl)

without_other : (layout : Layout) (leaf level k : ℕ) → (level ≢ 0) ⊎ (k ≢ leaf) → without layout leaf level k ≡ layout level k
without_other layout leaf level k (inl other) = ap (λ (b : Bool). if b && k == leaf then 0 else layout level k) (ne_eqb level 0 other)
without_other layout leaf level k (inr other) =
    ap (λ (b : Bool). if level == 0 && b then 0 else layout level k) (ne_eqb k leaf other)
    ∙ ap (λ (b : Bool). if b then 0 else layout level k) (and-false (level == 0))

takes_away : (layout : Layout) (leaf : ℕ) → TakesAway leaf layout (without layout leaf)
takes_away layout leaf = record { gone = without_leaf layout leaf; others = λ level k other. without_other layout leaf level k other }

other_or_leaf : (level k leaf : ℕ) → ((level ≢ 0) ⊎ (k ≢ leaf)) ⊎ ((level ≡ 0) × (k ≡ leaf))
other_or_leaf level k leaf = elim (cases_eq level 0) [
  | inl low ↦ elim (cases_eq k leaf) [ inl same ↦ inr (low, same) | inr other ↦ inl (inr other) ]
  | inr high ↦ inl (inl high)
]

still_other : (layout : Layout) (leaf level k : ℕ) → Stands (without layout leaf) level k → (level ≢ 0) ⊎ (k ≢ leaf)
still_other layout leaf level k stands = elim (other_or_leaf level k leaf) [
  | inl other ↦ other
  | inr same ↦ absurd (stands (ap (λ (l : ℕ). without layout leaf l k) same.0 ∙ ap (λ (j : ℕ). without layout leaf 0 j) same.1 ∙ without_leaf layout leaf))
]

still_stands : (layout : Layout) (leaf level k : ℕ) → Stands (without layout leaf) level k → Stands layout level k
still_stands layout leaf level k stands none = stands (without_other layout leaf level k (still_other layout leaf level k stands) ∙ none)

-- What was found

-- no leaf covers a block that no file may have
pub none_past : (v : ℕ) → longest_file ≤ v → (runs : List Run) (old : Layout) → AreRuns runs → ¬ IsCovered runs old v
none_past v past runs old are covered =
    let below = covered.1.covers.below in
    let within = border_within runs are 0 (covered.0 + 1) in
    omega arith

pub none_pruned : (words : List ℕ) (root v : ℕ) (found : Place) → FindsLeaf words v (whole root) found → found.node ≡ 0
    → (runs : List Run) (old : Layout) → AreRuns runs → Shows words root runs old → ¬ IsCovered runs old v
none_pruned words root v found finds none runs old are shows covered =
    let lies : LiesOver words v runs shows.top old covered.0 = record { are_runs = are; shows = shows.shows; over = covered.1 } in
    elim (finds runs shows.top old covered.0 shows.top lies (whole_is words v root runs shows.top old covered.0 lies shows.root_is)) [
      | inl there ↦ there.0 (sym there.1 ∙ none)
      | inr missing ↦ missing.0 covered.2
    ]

-- the place of the leaf over the block, which stands
record Found (words : List ℕ) (v : ℕ) (runs : List Run) (top : ℕ) (old : Layout) (found : Place) : Type 0 where
  pub leaf : ℕ
  pub lies : LiesOver words v runs top old leaf
  pub stands : Stands old 0 leaf
  pub node_is : found.node ≡ old 0 leaf
  pub is : IsPlaceOver runs top old leaf 0 found

leaf_found : (words : List ℕ) (root v : ℕ) (found : Place) → FindsLeaf words v (whole root) found → found.node ≢ 0 → v < longest_file
    → (runs : List Run) (old : Layout) → AreRuns runs → (shows : Shows words root runs old) → Found words v runs shows.top old found
leaf_found words root v found finds some filed runs old are shows =
    let leaf = leaf_some runs v filed in
    let lies : LiesOver words v runs shows.top old leaf.0 = record { are_runs = are; shows = shows.shows; over = leaf.1 } in
    elim (finds runs shows.top old leaf.0 shows.top lies (whole_is words v root runs shows.top old leaf.0 lies shows.root_is)) [
      | inl there ↦ record { leaf = leaf.0; lies = lies; stands = there.0; node_is = there.1; is = there.2 }
      | inr missing ↦ absurd (some missing.1)
    ]

pub leaf_taken : (pool : Pool) (words : List ℕ) (root v : ℕ) (found : Place) → HasTree pool words root → FindsLeaf words v (whole root) found
    → found.node ≢ 0 → v < longest_file → IsTaken pool found.node
leaf_taken pool words root v found tree finds some filed =
    let at : Found words v tree.runs tree.shows.top tree.layout found =
    leaf_found words root v found finds some filed tree.runs tree.layout tree.are_runs tree.shows in
    subst (λ (a : ℕ). IsTaken pool a) (sym at.node_is) (tree.taken 0 at.leaf at.stands)

root_alone_at : (words : List ℕ) (v : ℕ) (runs : List Run) (top : ℕ) (old : Layout) (found : Place) → (at : Found words v runs top old found)
    → found.parent ≡ 0 → 0 ≡ top
root_alone_at words v runs top old found at none = elim at.is.hangs [
  | inl root ↦ root.0
  | inr hangs ↦ absurd (hangs.1.stands (sym hangs.1.parent_is ∙ none))
]

hangs_under : (words : List ℕ) (v : ℕ) (runs : List Run) (top : ℕ) (old : Layout) (found : Place) → (at : Found words v runs top old found)
    → found.parent ≢ 0 → (0 < top) × HangsAt old at.leaf 0 found
hangs_under words v runs top old found at some = elim at.is.hangs [
  | inl root ↦ absurd (some root.1)
  | inr hangs ↦ hangs
]

pub parent_placed : (pool : Pool) (words : List ℕ) (root v : ℕ) (found : Place) → HasTree pool words root → FindsLeaf words v (whole root) found
    → found.node ≢ 0 → v < longest_file → found.parent ≢ 0 → IsNodeOf words found.parent × (found.entry < fanout)
parent_placed pool words root v found tree finds some filed hung =
    let at : Found words v tree.runs tree.shows.top tree.layout found =
    leaf_found words root v found finds some filed tree.runs tree.layout tree.are_runs tree.shows in
    let hangs = (hangs_under words v tree.runs tree.shows.top tree.layout found at hung).1 in (
      subst (λ (a : ℕ). IsNodeOf words a) (sym hangs.parent_is) (tree.shows.shows.placed (0 + 1) (node_over (0 + 1) at.leaf) hangs.stands),
      hangs.among,
    )

-- The leaf was the root.

root_alone_leaf : (words : List ℕ) (v : ℕ) (runs : List Run) (top : ℕ) (old : Layout) (leaf : ℕ) → LiesOver words v runs top old leaf → 0 ≡ top → leaf ≡ 0
root_alone_leaf words v runs top old leaf lies low =
    sym (over_leaf leaf) ∙ ap (λ (l : ℕ). node_over l leaf) low ∙ over_root runs top v leaf lies.are_runs lies.shows.root_level lies.over

pub root_leaf_gone : (root v : ℕ) (found : Place) (old_pool new_pool : Pool) (memory : KnownMemory) → FindsLeaf memory.words v (whole root) found
    → found.node ≢ 0 → v < longest_file → found.parent ≡ 0 → GivesBack old_pool found.node new_pool
    → (runs : List Run) (old : Layout) → AreRuns runs → Shows memory.words root runs old
    → TakesLeaf runs v old old_pool new_pool memory memory (record { lo = found.lo; hi = found.hi; root = 0 })
root_leaf_gone root v found old_pool new_pool memory finds some filed alone gives runs old are shows =
    let at : Found memory.words v runs shows.top old found = leaf_found memory.words root v found finds some filed runs old are shows in
    let top : 0 ≡ shows.top = root_alone_at memory.words v runs shows.top old found at alone in
    let over : node_over 0 at.leaf ≡ at.leaf = over_leaf at.leaf in
    let first : at.leaf ≡ 0 = root_alone_leaf memory.words v runs shows.top old at.leaf at.lies top in
    record {
      new = without old at.leaf;
      leaf = at.leaf;
      over = at.lies.over;
      stood = at.stands;
      takes = takes_away old at.leaf;
      shows = record {
        top = shows.top;
        root_is = sym (ap (λ (l : ℕ). without old at.leaf l 0) (sym top) ∙ ap (λ (k : ℕ). without old at.leaf 0 k) (sym first) ∙ without_leaf old at.leaf);
        shows = takes_leaf memory.words memory.words runs shows.top at.leaf old (without old at.leaf) shows.shows (record {
          takes = takes_away old at.leaf;
          stood = at.stands;
          size = omega arith;
          unlink = λ more. absurd (omega arith);
          kept = λ level k stands other. refl;
        });
      };
      from = at.is.from ∙ ap (λ (k : ℕ). border runs 0 k) over;
      to = at.is.to ∙ ap (λ (k : ℕ). border runs 0 (k + 1)) over;
      gives = subst (λ (a : ℕ). GivesBack old_pool a new_pool) at.node_is gives;
      writes = refl;
      others = record { size = refl; others = λ address is other. refl };
    }

-- The leaf had a parent.

not_parent : (level k above : ℕ) → (level ≢ 1) ⊎ (k ≢ above) → (level ≡ 1) × (k ≡ above) → ⊥
not_parent level k above (inl other) same = other same.0
not_parent level k above (inr other) same = other same.1

-- its parent says no more that it stands
unlinked : (v : ℕ) (found : Place) (old_words new_words : List ℕ) (runs : List Run) (top : ℕ) (old : Layout) (at : Found old_words v runs top old found)
    → (hangs : HangsAt old at.leaf 0 found) → PutsWord old_words found.parent (4 + 3 * found.entry) 0
    → new_words ≡ slice_set old_words (found.parent + (4 + 3 * found.entry)) 0
    → LeafTaken old_words new_words top at.leaf old (without old at.leaf)
unlinked v found old_words new_words runs top old at hangs puts new =
    let above : node_over (0 + 1) at.leaf ≡ at.leaf / 10 = over_above 0 at.leaf ∙ ap (λ (k : ℕ). k / 10) (over_leaf at.leaf) in
    let parent : found.parent ≡ old 1 (at.leaf / 10) = hangs.parent_is ∙ ap (λ (k : ℕ). old 1 k) above in
    let stands : Stands old 1 (at.leaf / 10) = subst (λ (k : ℕ). Stands old 1 k) above hangs.stands in
    let entry_is = hangs.entry_is in
    let over = over_leaf at.leaf in
    let among = hangs.among in
    let entry : found.entry ≡ at.leaf % 10 = omega arith in
    let here : node_at new_words found.parent ≡ slice_set (node_at old_words found.parent) (4 + 3 * found.entry) 0 =
    ap (λ (w : List ℕ). node_at w found.parent) new ∙ puts.here in
    record {
      takes = takes_away old at.leaf;
      stood = at.stands;
      size = (let size = puts.size in let same : length new_words ≡ length (slice_set old_words (found.parent + (4 + 3 * found.entry)) 0) = ap length new in omega arith);
      unlink = λ more. subst (λ (a : ℕ). node_at new_words a ≡ slice_set (node_at old_words a) (place_word (at.leaf % 10)) 0) parent
          (subst (λ (i : ℕ). node_at new_words found.parent ≡ slice_set (node_at old_words found.parent) (4 + 3 * i) 0) entry here);
      kept = λ level k still other.
          let stood : Stands old level k = still_stands old at.leaf level k still in
          let apart : old level k ≢ found.parent = λ same. not_parent level k (at.leaf / 10) other
          (at.lies.shows.apart level k 1 (at.leaf / 10) stood (same ∙ parent)) in
          ap (λ (w : List ℕ). node_at w (old level k)) new ∙ puts.others (old level k) (at.lies.shows.placed level k stood) apart;
    }

pub leaf_gone : (root v : ℕ) (found : Place) (old_pool new_pool : Pool) (old_memory new_memory : KnownMemory) → FindsLeaf old_memory.words v (whole root) found
    → found.node ≢ 0 → v < longest_file → found.parent ≢ 0 → GivesBack old_pool found.node new_pool
    → Stores (found.parent + (4 + 3 * found.entry)) 0 old_memory new_memory
    → (runs : List Run) (old : Layout) → AreRuns runs → Shows old_memory.words root runs old
    → TakesLeaf runs v old old_pool new_pool old_memory new_memory (record { lo = found.lo; hi = found.hi; root = root })
leaf_gone root v found old_pool new_pool old_memory new_memory finds some filed hung gives stores runs old are shows =
    let at : Found old_memory.words v runs shows.top old found = leaf_found old_memory.words root v found finds some filed runs old are shows in
    let under = hangs_under old_memory.words v runs shows.top old found at hung in
    let high : 0 < shows.top = under.0 in
    let hangs : HangsAt old at.leaf 0 found = under.1 in
    let over : node_over 0 at.leaf ≡ at.leaf = over_leaf at.leaf in
    let is : IsNodeOf old_memory.words found.parent =
    subst (λ (a : ℕ). IsNodeOf old_memory.words a) (sym hangs.parent_is) (shows.shows.placed (0 + 1) (node_over (0 + 1) at.leaf) hangs.stands) in
    let among = hangs.among in
    let puts : PutsWord old_memory.words found.parent (4 + 3 * found.entry) 0 = puts_word old_memory.words found.parent (4 + 3 * found.entry) 0 is (omega arith) in
    let new : new_memory.words ≡ slice_set old_memory.words (found.parent + (4 + 3 * found.entry)) 0 = ap (λ (m : KnownMemory). m.words) stores in
    let taken : LeafTaken old_memory.words new_memory.words shows.top at.leaf old (without old at.leaf) =
    unlinked v found old_memory.words new_memory.words runs shows.top old at hangs puts new in
    let not_low : shows.top ≢ 0 = λ low. omega arith in
    let parent_new : found.parent ≡ without old at.leaf (0 + 1) (node_over (0 + 1) at.leaf) =
    hangs.parent_is ∙ sym (without_other old at.leaf (0 + 1) (node_over (0 + 1) at.leaf) (inl (λ same. omega arith))) in
    record {
      new = without old at.leaf;
      leaf = at.leaf;
      over = at.lies.over;
      stood = at.stands;
      takes = takes_away old at.leaf;
      shows = record {
        top = shows.top;
        root_is = shows.root_is ∙ sym (without_other old at.leaf shows.top 0 (inl not_low));
        shows = takes_leaf old_memory.words new_memory.words runs shows.top at.leaf old (without old at.leaf) shows.shows taken;
      };
      from = at.is.from ∙ ap (λ (k : ℕ). border runs 0 k) over;
      to = at.is.to ∙ ap (λ (k : ℕ). border runs 0 (k + 1)) over;
      gives = subst (λ (a : ℕ). GivesBack old_pool a new_pool) at.node_is gives;
      writes = subst (λ (m : KnownMemory). WritesWords old_memory m) (sym stores) refl;
      others = record {
        size = ap length new ∙ puts.size;
        others = λ address node other.
            ap (λ (w : List ℕ). node_at w address) new
            ∙ puts.others address node (λ same. other (0 + 1, node_over (0 + 1) at.leaf, (λ none. hung (parent_new ∙ none)), same ∙ parent_new));
      };
    }
