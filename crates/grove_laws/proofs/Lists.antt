-- The nodes of a tree that stand, listed level by level.
use Rattle.std.proofs.Common.{◌≡◌, ◌≢◌, ◌⊎◌, inl, inr, ℕ, zero, suc, ◌<◌, List, [], ◌∷◌, length, Some, slice_get, refl, sym, ap, subst, ◌∙◌, arith}
use Rattle.std.proofs.lemmas.Bool.{cases_lt}
use Rattle.std.proofs.lemmas.Option.{none-some, same_Some}
use Rattle.nesc_base.specs.declared.runs.Run.{Run}
use Rattle.tree_shape.specs.Shape.{width}
use Rattle.tree_words.specs.Shown.{Layout, ShowsAt, Stands}
use Rattle.tree_words.proofs.Showing.{stands_or_not}
use Rattle.grove_laws.specs.Groves.{IsListOf}
use Rattle.grove_laws.specs.Laws.{HasList}

-- node k of a level is one of the levels below this one, or of the first so many of this one
abbrev IsFirst : ℕ → ℕ → ℕ → ℕ → Type 0
IsFirst high many level k = (level < high) ⊎ ((level ≡ high) × (k < many))

-- the list has the addresses of those of these nodes that stand
record ListsFirst (layout : Layout) (high many : ℕ) (nodes : List ℕ) : Type 0 where
  each : (level k : ℕ) → IsFirst high many level k → Stands layout level k → (j : ℕ) × (slice_get nodes j ≡ Some (layout level k))
  only : (j address : ℕ) → slice_get nodes j ≡ Some address
      → (level k : ℕ) × IsFirst high many level k × Stands layout level k × (address ≡ layout level k)
  once : (i j address : ℕ) → slice_get nodes i ≡ Some address → slice_get nodes j ≡ Some address → i ≡ j

first_more : (high many level k : ℕ) → IsFirst high many level k → IsFirst high (suc many) level k
first_more high many level k (inl low) = inl low
first_more high many level k (inr (same, less)) = inr (same, (omega arith))

first_or_last : (high many level k : ℕ) → IsFirst high (suc many) level k
    → IsFirst high many level k ⊎ ((level ≡ high) × (k ≡ many))
first_or_last high many level k (inl low) = inl (inl low)
first_or_last high many level k (inr (same, less)) = elim (cases_lt k many) [
  | inl under ↦ inl (inr (same, under))
  | inr last ↦ inr (same, (omega arith))
]

never_last : (high many level k : ℕ) → IsFirst high many level k → level ≡ high → k ≡ many → ⊥
never_last high many level k (inl low) same last = omega arith
never_last high many level k (inr (at, less)) same last = omega arith

module _ (words : List ℕ) (runs : List Run) (top : ℕ) (layout : Layout) (shows : ShowsAt words runs top layout) where
  -- one more node, which stands
  one_each : (high many : ℕ) (nodes : List ℕ) → ListsFirst layout high many nodes → (level k : ℕ) → IsFirst high (suc many) level k
      → Stands layout level k → (j : ℕ) × (slice_get (layout high many ∷ nodes) j ≡ Some (layout level k))
  one_each high many nodes lists level k first stands = elim (first_or_last high many level k first) [
    | inl before ↦ (let in_list = lists.each level k before stands in (suc in_list.0, in_list.1))
    | inr last ↦ (0, ap (λ (l : ℕ). Some (layout l many)) (sym last.0) ∙ ap (λ (n : ℕ). Some (layout level n)) (sym last.1))
  ]

  one_only : (high many : ℕ) (nodes : List ℕ) → ListsFirst layout high many nodes → Stands layout high many
      → (j address : ℕ) → slice_get (layout high many ∷ nodes) j ≡ Some address
      → (level k : ℕ) × IsFirst high (suc many) level k × Stands layout level k × (address ≡ layout level k)
  one_only high many nodes lists stands zero address is =
      let less : many < suc many = omega arith in
      (high, many, inr (refl, less), stands, sym (same_Some (layout high many) address is))
  one_only high many nodes lists stands (suc j) address is =
      let was = lists.only j address is in
      (was.0, was.1, first_more high many was.0 was.1 was.2, was.3, was.4)

  -- its address is not in the list so far
  one_new : (high many : ℕ) (nodes : List ℕ) → ListsFirst layout high many nodes → (j address : ℕ) → slice_get nodes j ≡ Some address
      → address ≢ layout high many
  one_new high many nodes lists j address is same =
      let was = lists.only j address is in
      let one = shows.apart was.0 was.1 high many was.3 (sym was.4 ∙ same) in
      never_last high many was.0 was.1 was.2 one.0 one.1

  one_once : (high many : ℕ) (nodes : List ℕ) → ListsFirst layout high many nodes → (i j address : ℕ)
      → slice_get (layout high many ∷ nodes) i ≡ Some address → slice_get (layout high many ∷ nodes) j ≡ Some address → i ≡ j
  one_once high many nodes lists zero zero address is too = refl
  one_once high many nodes lists zero (suc j) address is too =
      absurd (one_new high many nodes lists j address too (sym (same_Some (layout high many) address is)))
  one_once high many nodes lists (suc i) zero address is too =
      absurd (one_new high many nodes lists i address is (sym (same_Some (layout high many) address too)))
  one_once high many nodes lists (suc i) (suc j) address is too = ap (λ (n : ℕ). suc n) (lists.once i j address is too)

  one_more : (high many : ℕ) (nodes : List ℕ) → ListsFirst layout high many nodes → Stands layout high many
      → ListsFirst layout high (suc many) (layout high many ∷ nodes)
  one_more high many nodes lists stands = record {
    each = one_each high many nodes lists;
    only = one_only high many nodes lists stands;
    once = one_once high many nodes lists;
  }

  -- one more node, which does not stand
  none_more : (high many : ℕ) (nodes : List ℕ) → ListsFirst layout high many nodes → layout high many ≡ 0
      → ListsFirst layout high (suc many) nodes
  none_more high many nodes lists none = record {
    each = λ level k first stands. elim (first_or_last high many level k first) [
      | inl before ↦ lists.each level k before stands
      | inr last ↦ absurd (stands (ap (λ (l : ℕ). layout l k) last.0 ∙ ap (λ (n : ℕ). layout high n) last.1 ∙ none))
    ];
    only = λ j address is.
        let was = lists.only j address is in
        (was.0, was.1, first_more high many was.0 was.1 was.2, was.3, was.4);
    once = lists.once;
  }

  lists_level : (high many : ℕ) → ((nodes : List ℕ) × ListsFirst layout high 0 nodes) → (nodes : List ℕ) × ListsFirst layout high many nodes
  lists_level high zero below = below
  lists_level high (suc many) below =
      let before = lists_level high many below in
      elim (stands_or_not layout high many) [
        | inl none ↦ (before.0, none_more high many before.0 before.1 none)
        | inr stands ↦ (layout high many ∷ before.0, one_more high many before.0 before.1 stands)
      ]

  -- all nodes of a level are the first so many of it
  whole_level : (high : ℕ) (nodes : List ℕ) → ListsFirst layout high (width (length runs) high) nodes → ListsFirst layout (suc high) 0 nodes
  whole_level high nodes lists = record {
    each = λ level k first stands. elim first [
      | inl low ↦ elim (cases_lt level high) [
        | inl less ↦ lists.each level k (inl less) stands
        | inr rest ↦ (let same : level ≡ high = omega arith in
            let among = (shows.nodes level k stands).among in
            lists.each level k (inr (same, subst (λ (l : ℕ). k < width (length runs) l) same among)) stands)
      ]
      | inr none ↦ absurd (let less = none.1 in omega arith)
    ];
    only = λ j address is.
        let was = lists.only j address is in
        let low : was.0 < suc high = elim was.2 [ inl less ↦ omega arith | inr at ↦ (let same = at.0 in omega arith) ] in
        (was.0, was.1, inl low, was.3, was.4);
    once = lists.once;
  }

  lists_below : (high : ℕ) → (nodes : List ℕ) × ListsFirst layout high 0 nodes
  lists_below zero = (
    [],
    record {
      each = λ level k first stands. elim first [ inl low ↦ absurd (omega arith) | inr none ↦ absurd (let less = none.1 in omega arith) ];
      only = λ j address is. absurd (none-some address is);
      once = λ i j address is too. absurd (none-some address is);
    },
  )
  lists_below (suc high) =
      let level = lists_level high (width (length runs) high) (lists_below high) in
      (level.0, whole_level high level.0 level.1)

  pub list_at : (nodes : List ℕ) × IsListOf layout nodes
  list_at =
      let all = lists_below (suc top) in (
        all.0,
        record {
          each = λ address. (
            λ of.
                let low : of.0 < suc top = (let at = (shows.nodes of.0 of.1 of.2).at_level in omega arith) in
                let in_list = all.1.each of.0 of.1 (inl low) of.2 in
                (in_list.0, in_list.1 ∙ ap (λ (a : ℕ). Some a) (sym of.3)),
            λ in_list. let is = all.1.only in_list.0 address in_list.1 in (is.0, is.1, is.3, is.4),
          );
          once = all.1.once;
        },
      )

pub has_list : (words : List ℕ) (root : ℕ) (runs : List Run) (layout : Layout) → HasList words root runs layout
has_list words root runs layout shows = list_at words runs shows.top layout shows.shows
