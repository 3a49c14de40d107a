-- What words show.
use Rattle.std.proofs.Common.{◌≡◌, ◌≢◌, ◌⊎◌, inl, inr, ℕ, zero, suc, ◌+◌, ◌-◌, ◌*◌, ◌/◌, ◌%◌, ◌<◌, ◌≤◌, List, length, Some, slice_get, sym, ap, subst, ◌∙◌, arith}
use Rattle.std.proofs.lemmas.Bool.{cases_eq, cases_lt}
use Rattle.std.proofs.lemmas.Option.{same_Some}
use Rattle.nesc_base.specs.Memory.{node_at}
use Rattle.nesc_base.specs.declared.runs.Run.{Run}
use Rattle.tree_shape.specs.Shape.{children, fanout}
use Rattle.tree_shape.proofs.Spans.{root_alone, same_top}
use Rattle.tree_words.specs.Laws.{Agree, KeepsNodes, ShowOneLayout, StandsOnRoot, StaysShown}
use Rattle.tree_words.specs.Shown.{Layout, ShowsAt, Stands}
use Rattle.tree_words.proofs.NodeWords.{is_child, says_children}
use Rattle.tree_words.proofs.Places.{is_node_by_length}

-- a node either stands or does not
pub stands_or_not : (layout : Layout) (level k : ℕ) → (layout level k ≡ 0) ⊎ Stands layout level k
stands_or_not layout level k = cases_eq (layout level k) 0

-- what an inner node that stands says of its child
pub child_word : (words : List ℕ) (runs : List Run) (top : ℕ) (layout : Layout) → ShowsAt words runs top layout
    → (level k i : ℕ) → Stands layout (level + 1) k → i < children (length runs) level k
    → slice_get (node_at words (layout (level + 1) k)) (4 + 3 * i) ≡ Some (layout level (k * fanout + i))
child_word words runs top layout shows level k i stands within =
    ap (λ (node : List ℕ). slice_get node (4 + 3 * i)) (shows.says (level + 1) k stands)
    ∙ (says_children runs layout level k).place i within

-- One layout

-- a node that stands in the one has its address in the other too, where its parent has
stands_in_both : (words : List ℕ) (runs : List Run) (top : ℕ) (one other : Layout) → ShowsAt words runs top one
    → ShowsAt words runs top other → (level k : ℕ) → level < top
    → one (level + 1) (k / fanout) ≡ other (level + 1) (k / fanout) → Stands one level k → one level k ≡ other level k
stands_in_both words runs top one other shows shown level k under above stands =
    let child = is_child runs top level k (shows.nodes level k stands) in
    let parent : Stands one (level + 1) (k / fanout) = shows.parents level k under stands in
    let too : Stands other (level + 1) (k / fanout) = λ none. parent (above ∙ none) in
    let says = child_word words runs top one shows level (k / fanout) (k % fanout) parent child.0 in
    let said = child_word words runs top other shown level (k / fanout) (k % fanout) too child.0 in
    let c : ℕ = k / fanout * fanout + k % fanout in
    let same : one level c ≡ other level c = same_Some (one level c) (other level c)
    (sym says ∙ ap (λ (a : ℕ). slice_get (node_at words a) (4 + 3 * (k % fanout))) above ∙ said) in
    ap (λ (j : ℕ). one level j) (sym child.1) ∙ same ∙ ap (λ (j : ℕ). other level j) child.1

same_below : (words : List ℕ) (runs : List Run) (top : ℕ) (one other : Layout) → ShowsAt words runs top one
    → ShowsAt words runs top other → (level k : ℕ) → level < top
    → one (level + 1) (k / fanout) ≡ other (level + 1) (k / fanout) → one level k ≡ other level k
same_below words runs top one other shows shown level k under above =
    elim (stands_or_not one level k) [
      | inr stands ↦ stands_in_both words runs top one other shows shown level k under above stands
      | inl none ↦ elim (stands_or_not other level k) [
        | inr stands ↦ sym (stands_in_both words runs top other one shown shows level k under (sym above) stands)
        | inl nor ↦ none ∙ sym nor
      ]
    ]

-- beside the root nothing stands at its level, nor above it
none_beside : (words : List ℕ) (runs : List Run) (top : ℕ) (layout : Layout) → ShowsAt words runs top layout
    → (k : ℕ) → k ≢ 0 → layout top k ≡ 0
none_beside words runs top layout shows k apart = elim (stands_or_not layout top k) [
  | inl none ↦ none
  | inr stands ↦ absurd (apart (root_alone (length runs) top k shows.root_level (shows.nodes top k stands)))
]

none_higher : (words : List ℕ) (runs : List Run) (top : ℕ) (layout : Layout) → ShowsAt words runs top layout
    → (level k : ℕ) → top < level → layout level k ≡ 0
none_higher words runs top layout shows level k high = elim (stands_or_not layout level k) [
  | inl none ↦ none
  | inr stands ↦ absurd (let has = shows.nodes level k stands in let low = has.at_level in omega arith)
]

same_from_top : (words : List ℕ) (runs : List Run) (top : ℕ) (one other : Layout) → ShowsAt words runs top one
    → ShowsAt words runs top other → one top 0 ≡ other top 0 → (down level k : ℕ) → level + down ≡ top → one level k ≡ other level k
same_from_top words runs top one other shows shown same zero level k e =
    let at : level ≡ top = omega arith in
    let root : one top k ≡ other top k = elim (cases_eq k 0) [
      | inl first ↦ ap (λ (j : ℕ). one top j) first ∙ same ∙ ap (λ (j : ℕ). other top j) (sym first)
      | inr apart ↦ none_beside words runs top one shows k apart ∙ sym (none_beside words runs top other shown k apart)
    ] in
    ap (λ (l : ℕ). one l k) at ∙ root ∙ ap (λ (l : ℕ). other l k) (sym at)
same_from_top words runs top one other shows shown same (suc down) level k e =
    let under : level < top = omega arith in
    let next : level + 1 + down ≡ top = omega arith in
    same_below words runs top one other shows shown level k under
    (same_from_top words runs top one other shows shown same down (level + 1) (k / fanout) next)

pub one_layout_at : (words : List ℕ) (runs : List Run) (top : ℕ) (one other : Layout) → ShowsAt words runs top one
    → ShowsAt words runs top other → one top 0 ≡ other top 0 → Agree one other
one_layout_at words runs top one other shows shown same level k = elim (cases_lt top level) [
  | inl high ↦ none_higher words runs top one shows level k high ∙ sym (none_higher words runs top other shown level k high)
  | inr low ↦ (let down : level + (top - level) ≡ top = omega arith in
      same_from_top words runs top one other shows shown same (top - level) level k down)
]

pub one_layout : (words : List ℕ) (root : ℕ) (runs : List Run) → ShowOneLayout words root runs
one_layout words root runs one other shows shown =
    let tops : shown.top ≡ shows.top = same_top (length runs) shown.top shows.top shown.shows.root_level shows.shows.root_level in
    let too : ShowsAt words runs shows.top other = subst (λ (top : ℕ). ShowsAt words runs top other) tops shown.shows in
    let same : one shows.top 0 ≡ other shows.top 0 = sym shows.root_is ∙ shown.root_is ∙ ap (λ (top : ℕ). other top 0) tops in
    one_layout_at words runs shows.top one other shows.shows too same

-- What stays shown

pub stays_shown_at : (old new : List ℕ) (runs : List Run) (top : ℕ) (layout : Layout) → length old ≤ length new
    → KeepsNodes layout old new → ShowsAt old runs top layout → ShowsAt new runs top layout
stays_shown_at old new runs top layout longer keeps shows = record {
  root_level = shows.root_level;
  nodes = shows.nodes;
  parents = shows.parents;
  placed = λ level k stands. is_node_by_length old new (layout level k) longer (shows.placed level k stands);
  says = λ level k stands. keeps level k stands ∙ shows.says level k stands;
  apart = shows.apart;
}

pub stays_shown : (old new : List ℕ) → StaysShown old new
stays_shown old new root runs layout longer keeps shows = record {
  top = shows.top;
  root_is = shows.root_is;
  shows = stays_shown_at old new runs shows.top layout longer keeps shows.shows;
}

-- Roots

root_stands : (words : List ℕ) (runs : List Run) (top : ℕ) (layout : Layout) → ShowsAt words runs top layout
    → (up level k : ℕ) → level + up ≡ top → Stands layout level k → Stands layout top 0
root_stands words runs top layout shows zero level k e stands =
    let at : level ≡ top = omega arith in
    let here : Stands layout top k = λ none. stands (ap (λ (l : ℕ). layout l k) at ∙ none) in
    let first : k ≡ 0 = root_alone (length runs) top k shows.root_level (shows.nodes top k here) in
    λ none. here (ap (λ (j : ℕ). layout top j) first ∙ none)
root_stands words runs top layout shows (suc up) level k e stands =
    let under : level < top = omega arith in
    let next : level + 1 + up ≡ top = omega arith in
    root_stands words runs top layout shows up (level + 1) (k / fanout) next (shows.parents level k under stands)

pub stands_on_root_at : (words : List ℕ) (runs : List Run) (top : ℕ) (layout : Layout) → ShowsAt words runs top layout
    → layout top 0 ≡ 0 → (level k : ℕ) → layout level k ≡ 0
stands_on_root_at words runs top layout shows none level k = elim (stands_or_not layout level k) [
  | inl nor ↦ nor
  | inr stands ↦ absurd (
      let has = shows.nodes level k stands in
      let low = has.at_level in
      let up : level + (top - level) ≡ top = omega arith in
      root_stands words runs top layout shows (top - level) level k up stands none)
]

pub stands_on_root : (words : List ℕ) (runs : List Run) → StandsOnRoot words runs
stands_on_root words runs layout shows =
    stands_on_root_at words runs shows.top layout shows.shows (sym shows.root_is)
