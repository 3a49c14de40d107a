-- What words show after a path was built, and after a leaf was taken away.
use Rattle.std.proofs.Common.{◌≡◌, ◌≢◌, ◌⊎◌, inl, inr, ℕ, zero, suc, ◌+◌, ◌*◌, ◌/◌, ◌%◌, ◌<◌, ◌≤◌, List, length, refl, sym, ap, subst, ◌∙◌, add-one, arith}
use Rattle.std.specs.Prelude.{slice_set}
use Rattle.std.proofs.lemmas.Bool.{cases_eq, cases_lt}
use Rattle.nesc_base.specs.Memory.{IsNodeOf, node_at}
use Rattle.nesc_base.specs.declared.runs.Run.{Run}
use Rattle.extent_node.specs.Words.{place_word}
use Rattle.tree_shape.specs.Shape.{HasNode, children, fanout, node_over, width}
use Rattle.tree_words.specs.Changed.{Adds, Lacks, TakesAway, with_node}
use Rattle.tree_words.specs.Laws.{AgreeBelow, GivesPath, LeafTaken, PathBuilt, TakesLeaf}
use Rattle.tree_words.specs.Shown.{Layout, ShowsAt, Stands, words_at}
use Rattle.tree_words.proofs.NodeWords.{are_local, links_child, with_node_here, with_node_other}
use Rattle.tree_words.proofs.Paths.{over_among, over_next}
use Rattle.tree_words.proofs.Places.{is_node_by_length}
use Rattle.tree_words.proofs.Showing.{stands_or_not}

-- Words of a node whose children stand as before, but for one

agree_words : (runs : List Run) (one other : Layout) (level k : ℕ)
    → ((below i : ℕ) → level ≡ below + 1 → i < children (length runs) below k → one below (k * fanout + i) ≡ other below (k * fanout + i))
    → words_at runs one level k ≡ words_at runs other level k
agree_words runs one other zero k agree = refl
agree_words runs one other (suc below) k agree =
    let here : suc below ≡ below + 1 = sym (add-one below) in
    subst (λ (l : ℕ). words_at runs one l k ≡ words_at runs other l k) (add-one below)
    ((are_local runs one other).inner below k (λ i within. agree below i here within))

-- The words of a node in which the address of child c was put say where the children stand now, where no other child of
-- it came or went.
linked_words : (runs : List Run) (old new : Layout) (level k c : ℕ) → c / fanout ≡ k → c < width (length runs) level
    → ((j : ℕ) → j ≢ c → j / fanout ≡ k → old level j ≡ new level j)
    → slice_set (words_at runs old (level + 1) k) (place_word (c % fanout)) (new level c) ≡ words_at runs new (level + 1) k
linked_words runs old new level k c parent there others =
    let slot : ℕ = c % fanout in
    let within : slot < children (length runs) level k = omega arith in
    let same : k * fanout + slot ≡ c = omega arith in
    let agree : AgreeBelow runs (with_node old level (k * fanout + slot) (new level c)) new level k = λ i less. elim (cases_eq i slot) [
      | inl here ↦
          let at : k * fanout + i ≡ k * fanout + slot = omega arith in
          ap (λ (j : ℕ). with_node old level (k * fanout + slot) (new level c) level j) at
          ∙ with_node_here old level (k * fanout + slot) (new level c)
          ∙ ap (λ (j : ℕ). new level j) (sym same ∙ sym at)
      | inr apart ↦
          let away : k * fanout + i ≢ k * fanout + slot = λ e. apart (omega arith) in
          let other : k * fanout + i ≢ c = λ e. apart (omega arith) in
          let below : (k * fanout + i) / fanout ≡ k = omega arith in
          with_node_other old level (k * fanout + slot) (new level c) level (k * fanout + i) (inr away)
          ∙ others (k * fanout + i) other below
    ] in
    links_child runs old level k slot (new level c) within
    ∙ (are_local runs (with_node old level (k * fanout + slot) (new level c)) new).inner level k agree

-- A path that was built

-- a node that stands now and did not before is one of the path's new ones
new_of_path : (top leaf high : ℕ) (old new : Layout) → Adds top leaf old new → Lacks top leaf old (high + 1)
    → (level k : ℕ) → Stands new level k → old level k ≡ 0 → (level ≤ high) × (k ≡ node_over level leaf)
new_of_path top leaf high old new adds lacks level k stands none = elim (adds.no_other level k stands) [
  | inl before ↦ absurd (before none)
  | inr leads ↦ elim (cases_lt high level) [
    | inl above ↦ absurd (
        let from : high + 1 ≤ level = omega arith in
        lacks.have level from leads.0 (ap (λ (j : ℕ). old level j) (sym leads.1) ∙ none))
    | inr low ↦ (low, leads.1)
  ]
]

-- all others stand where they stood
same_of_path : (top leaf high : ℕ) (old new : Layout) → Adds top leaf old new → Lacks top leaf old (high + 1)
    → (level k : ℕ) → (high < level) ⊎ (k ≢ node_over level leaf) → old level k ≡ new level k
same_of_path top leaf high old new adds lacks level k other = elim (stands_or_not old level k) [
  | inr stands ↦ sym (adds.stay level k stands)
  | inl none ↦ elim (stands_or_not new level k) [
    | inl nor ↦ none ∙ sym nor
    | inr came ↦ absurd (
        let on = new_of_path top leaf high old new adds lacks level k came none in
        elim other [ inl above ↦ (let low = on.0 in omega arith) | inr off ↦ off on.1 ])
  ]
]

-- below an old node that is not the lowest one of the path nothing came
same_below_old : (top leaf high : ℕ) (old new : Layout) → Adds top leaf old new → Lacks top leaf old (high + 1)
    → (level k j : ℕ) → Stands old (level + 1) k → ((level ≢ high) ⊎ (k ≢ node_over (high + 1) leaf)) → j / fanout ≡ k
    → old level j ≡ new level j
same_below_old top leaf high old new adds lacks level k j stands other parent = elim (cases_eq j (node_over level leaf)) [
  | inr off ↦ same_of_path top leaf high old new adds lacks level j (inr off)
  | inl on ↦
      let over : k ≡ node_over (level + 1) leaf = sym parent ∙ over_next level leaf j on in
      elim (cases_lt high level) [
        | inl above ↦ same_of_path top leaf high old new adds lacks level j (inl above)
        | inr low ↦ absurd (elim (cases_lt level high) [
          | inl less ↦
              let lacking : level + 1 < high + 1 = omega arith in
              stands (ap (λ (i : ℕ). old (level + 1) i) over ∙ lacks.lack (level + 1) lacking)
          | inr most ↦
              let same : level ≡ high = omega arith in
              elim other [
                | inl differs ↦ differs same
                | inr away ↦ away (over ∙ ap (λ (l : ℕ). node_over (l + 1) leaf) same)
              ]
        ])
      ]
]

path_nodes : (old_words new_words : List ℕ) (runs : List Run) (top leaf high : ℕ) (old new : Layout) → leaf < width (length runs) 0
    → ShowsAt old_words runs top old → PathBuilt old_words new_words runs top leaf high old new
    → (level k : ℕ) → Stands new level k → HasNode (length runs) top level k
path_nodes old_words new_words runs top leaf high old new there shows built level k stands = elim (built.adds.no_other level k stands) [
  | inl before ↦ shows.nodes level k before
  | inr leads ↦
      let among : node_over level leaf < width (length runs) level = over_among (length runs) leaf level there in
      record { at_level = leads.0; among = subst (λ (j : ℕ). j < width (length runs) level) (sym leads.1) among }
]

path_parents : (old_words new_words : List ℕ) (runs : List Run) (top leaf high : ℕ) (old new : Layout)
    → ShowsAt old_words runs top old → PathBuilt old_words new_words runs top leaf high old new
    → (level k : ℕ) → level < top → Stands new level k → Stands new (level + 1) (k / fanout)
path_parents old_words new_words runs top leaf high old new shows built level k under stands = elim (built.adds.no_other level k stands) [
  | inl before ↦
      let parent = shows.parents level k under before in
      λ none. parent (sym (built.adds.stay (level + 1) (k / fanout) parent) ∙ none)
  | inr leads ↦
      let within : level + 1 ≤ top = omega arith in
      λ none. built.adds.path (level + 1) within (ap (λ (j : ℕ). new (level + 1) j) (sym (over_next level leaf k leads.1)) ∙ none)
]

-- an old node whose words were kept
kept_says : (old_words new_words : List ℕ) (runs : List Run) (top leaf high : ℕ) (old new : Layout)
    → ShowsAt old_words runs top old → PathBuilt old_words new_words runs top leaf high old new
    → (level k : ℕ) → Stands old level k → (level ≢ high + 1) ⊎ (k ≢ node_over (high + 1) leaf)
    → node_at new_words (old level k) ≡ words_at runs new level k
kept_says old_words new_words runs top leaf high old new shows built level k stands other =
    built.kept level k stands other ∙ shows.says level k stands
    ∙ agree_words runs old new level k (λ below i at within.
    let parent : (k * fanout + i) / fanout ≡ k = omega arith in
    let here : Stands old (below + 1) k = subst (λ (l : ℕ). Stands old l k) at stands in
    let away : (below ≢ high) ⊎ (k ≢ node_over (high + 1) leaf) = elim other [
      | inl differs ↦ inl (λ same. differs (omega arith))
      | inr off ↦ inr off
    ] in
    same_below_old top leaf high old new built.adds built.lacks below k (k * fanout + i) here away parent)

-- the lowest old node of the path, in which the address of the new one below it was put
link_says : (old_words new_words : List ℕ) (runs : List Run) (top leaf high : ℕ) (old new : Layout) → leaf < width (length runs) 0
    → ShowsAt old_words runs top old → PathBuilt old_words new_words runs top leaf high old new
    → high < top → node_at new_words (old (high + 1) (node_over (high + 1) leaf)) ≡ words_at runs new (high + 1) (node_over (high + 1) leaf)
link_says old_words new_words runs top leaf high old new there shows built under =
    let k : ℕ = node_over (high + 1) leaf in
    let c : ℕ = node_over high leaf in
    let all : high + 1 ≤ high + 1 = omega arith in
    let within : high + 1 ≤ top = omega arith in
    let stands : Stands old (high + 1) k = built.lacks.have (high + 1) all within in
    let parent : c / fanout ≡ k = over_next high leaf c refl in
    built.link under
    ∙ ap (λ (words : List ℕ). slice_set words (place_word (c % fanout)) (new high c)) (shows.says (high + 1) k stands)
    ∙ linked_words runs old new high k c parent (over_among (length runs) leaf high there)
    (λ j apart of. same_of_path top leaf high old new built.adds built.lacks high j (inr apart))

old_says : (old_words new_words : List ℕ) (runs : List Run) (top leaf high : ℕ) (old new : Layout) → leaf < width (length runs) 0
    → ShowsAt old_words runs top old → PathBuilt old_words new_words runs top leaf high old new
    → (level k : ℕ) → Stands old level k → node_at new_words (old level k) ≡ words_at runs new level k
old_says old_words new_words runs top leaf high old new there shows built level k stands = elim (cases_eq level (high + 1)) [
  | inr differs ↦ kept_says old_words new_words runs top leaf high old new shows built level k stands (inl differs)
  | inl at ↦ elim (cases_eq k (node_over (high + 1) leaf)) [
    | inr off ↦ kept_says old_words new_words runs top leaf high old new shows built level k stands (inr off)
    | inl on ↦
        let has = shows.nodes level k stands in
        let low = has.at_level in
        let under : high < top = omega arith in
        subst (λ (l : ℕ). node_at new_words (old l k) ≡ words_at runs new l k) (sym at)
        (subst (λ (j : ℕ). node_at new_words (old (high + 1) j) ≡ words_at runs new (high + 1) j) (sym on)
        (link_says old_words new_words runs top leaf high old new there shows built under))
  ]
]

path_says : (old_words new_words : List ℕ) (runs : List Run) (top leaf high : ℕ) (old new : Layout) → leaf < width (length runs) 0
    → ShowsAt old_words runs top old → PathBuilt old_words new_words runs top leaf high old new
    → (level k : ℕ) → Stands new level k → node_at new_words (new level k) ≡ words_at runs new level k
path_says old_words new_words runs top leaf high old new there shows built level k stands = elim (stands_or_not old level k) [
  | inr before ↦ ap (λ (a : ℕ). node_at new_words a) (built.adds.stay level k before)
      ∙ old_says old_words new_words runs top leaf high old new there shows built level k before
  | inl none ↦
      let on = new_of_path top leaf high old new built.adds built.lacks level k stands none in
      subst (λ (j : ℕ). node_at new_words (new level j) ≡ words_at runs new level j) (sym on.1) (built.path level on.0)
]

pub gives_path : (old_words new_words : List ℕ) (runs : List Run) (top leaf : ℕ) → GivesPath old_words new_words runs top leaf
gives_path old_words new_words runs top leaf high old new there shows built = record {
  root_level = shows.root_level;
  nodes = path_nodes old_words new_words runs top leaf high old new there shows built;
  parents = path_parents old_words new_words runs top leaf high old new shows built;
  placed = built.placed;
  says = path_says old_words new_words runs top leaf high old new there shows built;
  apart = built.apart;
}

-- A leaf that was taken away

-- what still stands stands where it did
still : (leaf : ℕ) (old new : Layout) → TakesAway leaf old new → (level k : ℕ) → Stands new level k → new level k ≡ old level k
still leaf old new takes level k stands = elim (cases_eq level 0) [
  | inr above ↦ takes.others level k (inl above)
  | inl low ↦ elim (cases_eq k leaf) [
    | inr other ↦ takes.others level k (inr other)
    | inl here ↦ absurd (stands (ap (λ (l : ℕ). new l k) low ∙ ap (λ (j : ℕ). new 0 j) here ∙ takes.gone))
  ]
]

stood_before : (leaf : ℕ) (old new : Layout) → TakesAway leaf old new → (level k : ℕ) → Stands new level k → Stands old level k
stood_before leaf old new takes level k stands = λ none. stands (still leaf old new takes level k stands ∙ none)

taken_kept : (old_words new_words : List ℕ) (runs : List Run) (top leaf : ℕ) (old new : Layout) → ShowsAt old_words runs top old
    → LeafTaken old_words new_words top leaf old new → (level k : ℕ) → Stands new level k → (level ≢ 1) ⊎ (k ≢ leaf / fanout)
    → node_at new_words (old level k) ≡ words_at runs new level k
taken_kept old_words new_words runs top leaf old new shows taken level k stands other =
    taken.kept level k stands other
    ∙ shows.says level k (stood_before leaf old new taken.takes level k stands)
    ∙ agree_words runs old new level k (λ below i at within.
    let parent : (k * fanout + i) / fanout ≡ k = omega arith in
    let away : (below ≢ 0) ⊎ (k * fanout + i ≢ leaf) = elim other [
      | inl differs ↦ inl (λ low. differs (omega arith))
      | inr off ↦ inr (λ same. off (sym parent ∙ ap (λ (j : ℕ). j / 10) same))
    ] in
    sym (taken.takes.others below (k * fanout + i) away))

taken_unlinked : (old_words new_words : List ℕ) (runs : List Run) (top leaf : ℕ) (old new : Layout) → ShowsAt old_words runs top old
    → LeafTaken old_words new_words top leaf old new → 0 < top
    → node_at new_words (old 1 (leaf / fanout)) ≡ words_at runs new 1 (leaf / fanout)
taken_unlinked old_words new_words runs top leaf old new shows taken under =
    let has = shows.nodes 0 leaf taken.stood in
    let parent : Stands old 1 (leaf / fanout) = shows.parents 0 leaf under taken.stood in
    taken.unlink under
    ∙ ap (λ (words : List ℕ). slice_set words (place_word (leaf % fanout)) 0) (shows.says 1 (leaf / fanout) parent)
    ∙ ap (λ (a : ℕ). slice_set (words_at runs old 1 (leaf / fanout)) (place_word (leaf % fanout)) a) (sym taken.takes.gone)
    ∙ linked_words runs old new 0 (leaf / fanout) leaf refl has.among (λ j apart of. sym (taken.takes.others 0 j (inr apart)))

taken_says : (old_words new_words : List ℕ) (runs : List Run) (top leaf : ℕ) (old new : Layout) → ShowsAt old_words runs top old
    → LeafTaken old_words new_words top leaf old new → (level k : ℕ) → Stands new level k
    → node_at new_words (old level k) ≡ words_at runs new level k
taken_says old_words new_words runs top leaf old new shows taken level k stands = elim (cases_eq level 1) [
  | inr differs ↦ taken_kept old_words new_words runs top leaf old new shows taken level k stands (inl differs)
  | inl at ↦ elim (cases_eq k (leaf / fanout)) [
    | inr off ↦ taken_kept old_words new_words runs top leaf old new shows taken level k stands (inr off)
    | inl on ↦
        let has = shows.nodes level k (stood_before leaf old new taken.takes level k stands) in
        let low = has.at_level in
        let under : 0 < top = omega arith in
        subst (λ (l : ℕ). node_at new_words (old l k) ≡ words_at runs new l k) (sym at)
        (subst (λ (j : ℕ). node_at new_words (old 1 j) ≡ words_at runs new 1 j) (sym on)
        (taken_unlinked old_words new_words runs top leaf old new shows taken under))
  ]
]

pub takes_leaf : (old_words new_words : List ℕ) (runs : List Run) (top leaf : ℕ) → TakesLeaf old_words new_words runs top leaf
takes_leaf old_words new_words runs top leaf old new shows taken =
    let back = λ (level k : ℕ) (stands : Stands new level k). still leaf old new taken.takes level k stands in
    let before = λ (level k : ℕ) (stands : Stands new level k). stood_before leaf old new taken.takes level k stands in
    record {
      root_level = shows.root_level;
      nodes = λ level k stands. shows.nodes level k (before level k stands);
      parents = λ level k under stands.
          let parent = shows.parents level k under (before level k stands) in
          let above : level + 1 ≢ 0 = λ none. omega arith in
          λ none. parent (sym (taken.takes.others (level + 1) (k / fanout) (inl above)) ∙ none);
      placed = λ level k stands. is_node_by_length old_words new_words (new level k) taken.size
          (subst (λ (a : ℕ). IsNodeOf old_words a) (sym (back level k stands)) (shows.placed level k (before level k stands)));
      says = λ level k stands. ap (λ (a : ℕ). node_at new_words a) (back level k stands)
          ∙ taken_says old_words new_words runs top leaf old new shows taken level k stands;
      apart = λ level k other j stands same.
          let too : Stands new other j = λ none. stands (same ∙ none) in
          shows.apart level k other j (before level k stands) (sym (back level k stands) ∙ same ∙ back other j too);
    }
