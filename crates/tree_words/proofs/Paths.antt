-- Which nodes of a path stand.
use Rattle.std.proofs.Common.{◌≡◌, inl, inr, ℕ, zero, suc, ◌+◌, ◌-◌, ◌/◌, ◌<◌, ◌≤◌, List, sym, ap, subst, ◌∙◌, add-one, arith}
use Rattle.std.proofs.lemmas.Bool.{cases_lt}
use Rattle.nesc_base.specs.declared.runs.Run.{Run}
use Rattle.tree_shape.specs.Shape.{fanout, node_over, width}
use Rattle.tree_shape.proofs.Borders.{among_above}
use Rattle.tree_shape.proofs.Paths.{over_above, over_leaf}
use Rattle.tree_words.specs.Changed.{Lacks}
use Rattle.tree_words.specs.Laws.{HasOneLack}
use Rattle.tree_words.specs.Shown.{Layout, ShowsAt, Stands}
use Rattle.tree_words.proofs.Showing.{stands_on_root_at, stands_or_not}

-- where a node is on the path, the one above it is
pub over_next : (level leaf k : ℕ) → k ≡ node_over level leaf → k / fanout ≡ node_over (level + 1) leaf
over_next level leaf k is = ap (λ (j : ℕ). j / 10) is ∙ sym (over_above level leaf)

-- the nodes over a leaf are nodes of their levels
pub over_among : (count leaf level : ℕ) → leaf < width count 0 → node_over level leaf < width count level
over_among count leaf zero there = omega (arith, over_leaf leaf)
over_among count leaf (suc level) there =
    let above : node_over level leaf / 10 < width count (level + 1) = among_above count level (node_over level leaf) (over_among count leaf level there) in
    let here : node_over (level + 1) leaf < width count (level + 1) = omega (arith, over_above level leaf) in
    subst (λ (l : ℕ). node_over l leaf < width count l) (add-one level) here

stands_up : (words : List ℕ) (runs : List Run) (top leaf : ℕ) (layout : Layout) → ShowsAt words runs top layout
    → (up low high : ℕ) → low + up ≡ high → high ≤ top → Stands layout low (node_over low leaf) → Stands layout high (node_over high leaf)
stands_up words runs top leaf layout shows zero low high e within stands =
    let same : low ≡ high = omega arith in
    subst (λ (l : ℕ). Stands layout l (node_over l leaf)) same stands
stands_up words runs top leaf layout shows (suc up) low high e within stands =
    let under : low < top = omega arith in
    let next : low + 1 + up ≡ high = omega arith in
    let above : Stands layout (low + 1) (node_over (low + 1) leaf) =
    subst (λ (k : ℕ). Stands layout (low + 1) k) (sym (over_above low leaf)) (shows.parents low (node_over low leaf) under stands) in
    stands_up words runs top leaf layout shows up (low + 1) high next within above

pub stands_above : (words : List ℕ) (runs : List Run) (top leaf : ℕ) (layout : Layout) → ShowsAt words runs top layout
    → (low high : ℕ) → low ≤ high → high ≤ top → Stands layout low (node_over low leaf) → Stands layout high (node_over high leaf)
stands_above words runs top leaf layout shows low high under within stands =
    let up : low + (high - low) ≡ high = omega arith in
    stands_up words runs top leaf layout shows (high - low) low high up within stands

-- Where all nodes from a level on stand, one number says which of those below it do not.
lacks_below : (words : List ℕ) (runs : List Run) (top leaf : ℕ) (layout : Layout) → ShowsAt words runs top layout
    → (n : ℕ) → n ≤ top + 1 → ((level : ℕ) → n ≤ level → level ≤ top → Stands layout level (node_over level leaf))
    → (lacking : ℕ) × Lacks top leaf layout lacking
lacks_below words runs top leaf layout shows zero most have = (
  0,
  record {
    most = most;
    lack = λ level less. absurd (omega arith);
    have = have;
  },
)
lacks_below words runs top leaf layout shows (suc n) most have = elim (stands_or_not layout n (node_over n leaf)) [
  | inl none ↦ (
    suc n,
    record {
      most = most;
      lack = λ level less. elim (stands_or_not layout level (node_over level leaf)) [
        | inl nor ↦ nor
        | inr stands ↦ absurd (
            let under : level ≤ n = omega arith in
            let within : n ≤ top = omega arith in
            stands_above words runs top leaf layout shows level n under within stands none)
      ];
      have = have;
    },
  )
  | inr stands ↦ (let under : n ≤ top + 1 = omega arith in
      lacks_below words runs top leaf layout shows n under (λ level from to. elim (cases_lt n level) [
        | inl more ↦ (let above : suc n ≤ level = omega arith in have level above to)
        | inr rest ↦ (let same : n ≡ level = omega arith in subst (λ (l : ℕ). Stands layout l (node_over l leaf)) same stands)
      ]))
]

lacks_no_fewer : (top leaf : ℕ) (layout : Layout) (one other : ℕ) → Lacks top leaf layout one → Lacks top leaf layout other → one < other → ⊥
lacks_no_fewer top leaf layout one other is isnt less =
    let most = isnt.most in
    let all : one ≤ one = omega arith in
    let within : one ≤ top = omega arith in
    is.have one all within (isnt.lack one less)

pub has_one_lack : (words : List ℕ) (runs : List Run) (top leaf : ℕ) (layout : Layout) → ShowsAt words runs top layout
    → HasOneLack top leaf layout
has_one_lack words runs top leaf layout shows = record {
  above = stands_above words runs top leaf layout shows;
  some = (let all : top + 1 ≤ top + 1 = omega arith in
      lacks_below words runs top leaf layout shows (top + 1) all (λ level from to. absurd (omega arith)));
  one = λ one other is isnt. elim (cases_lt one other) [
    | inl less ↦ absurd (lacks_no_fewer top leaf layout one other is isnt less)
    | inr rest ↦ elim (cases_lt other one) [
      | inl less ↦ absurd (lacks_no_fewer top leaf layout other one isnt is less)
      | inr most ↦ omega arith
    ]
  ];
  none = (
    λ lacks. let all : 0 ≤ 0 = omega arith in let within : 0 ≤ top = omega arith in
        subst (λ (k : ℕ). Stands layout 0 k) (over_leaf leaf) (lacks.have 0 all within),
    λ stands. record {
      most = omega arith;
      lack = λ level less. absurd (omega arith);
      have = λ level from to.
          let under : 0 ≤ level = omega arith in
          stands_above words runs top leaf layout shows 0 level under to (subst (λ (k : ℕ). Stands layout 0 k) (sym (over_leaf leaf)) stands);
    },
  );
  all = λ none. record {
    most = omega arith;
    lack = λ level less. stands_on_root_at words runs top layout shows none level (node_over level leaf);
    have = λ level from to. absurd (omega arith);
  };
}
