-- How many runs lie under a node of a level, how many nodes a level has, and where the root stands.
use Rattle.std.proofs.Common.{◌≡◌, ◌⊎◌, inl, inr, ℕ, zero, suc, ◌+◌, ◌-◌, ◌*◌, ◌/◌, ◌^◌, ◌<◌, ◌≤◌, sym, ap, ◌∙◌, add-one, arith}
use Rattle.std.proofs.Math.Nat.{div-mul-le_self, mul-le-mul_right, one-le-pow, pow-le-pow_right, pow-succ'}
use Rattle.std.proofs.lemmas.Bool.{cases_lt}
use Rattle.std.proofs.lemmas.Nat.{le-div}
use Rattle.nesc_base.specs.Files.{longest_file}
use Rattle.tree_shape.specs.Laws.{HasNodesOverRuns, HasOneTop}
use Rattle.tree_shape.specs.Shape.{HasNode, IsTop, fanout, highest, span, width}

pub span_above : (level : ℕ) → span (level + 1) ≡ fanout * span level
span_above level = ap (λ (m : ℕ). 10 ^ m) (add-one (level + 1)) ∙ pow-succ' 10 (level + 1)

pub span_power : (level : ℕ) → span level ≡ fanout * fanout ^ level
span_power level = ap (λ (m : ℕ). 10 ^ m) (add-one level) ∙ pow-succ' 10 level

pub span_some : (level : ℕ) → fanout ≤ span level
span_some level = let some : 0 < 10 = omega arith in omega (arith, one-le-pow level 10 some, span_power level)

pub span_rising : (low high : ℕ) → low ≤ high → span low ≤ span high
span_rising low high under = let some : 0 < 10 = omega arith in let above : low + 1 ≤ high + 1 = omega arith in pow-le-pow_right some above

pub span_over : (n : ℕ) → n < span n
span_over zero = omega (arith, span_some 0)
span_over (suc n) = let above = span_above n in let same : span (suc n) ≡ span (n + 1) = ap (λ (m : ℕ). span m) (sym (add-one n)) in omega (arith, span_over n)

-- a count of parts, rounded up
part_from : (count s k : ℕ) → 0 < s → k * s < count → k < (count + (s - 1)) / s
part_from count s k some less =
    let fits : (k + 1) * s ≤ count + (s - 1) = omega arith in
    let up = le-div (k + 1) (count + (s - 1)) s some fits in
    omega arith

part_to : (count s k : ℕ) → 0 < s → k < (count + (s - 1)) / s → k * s < count
part_to count s k some less =
    let up : k + 1 ≤ (count + (s - 1)) / s = omega arith in
    let times : (k + 1) * s ≤ (count + (s - 1)) / s * s = mul-le-mul_right s up in
    omega (arith, div-mul-le_self (count + (s - 1)) s)

pub width_some : (count level : ℕ) → 0 < width count level
width_some count level = omega arith

pub among_from : (count level k : ℕ) → k * span level < count → k < width count level
among_from count level k less =
    let some : 0 < span level = omega (arith, span_some level) in
    let part = part_from count (span level) k some less in
    omega arith

pub among_to : (count level k : ℕ) → k < width count level → (k ≡ 0) ⊎ (k * span level < count)
among_to count level zero less = inl (omega arith)
among_to count level (suc k) less =
    let some : 0 < span level = omega (arith, span_some level) in
    let part : suc k < (count + (span level - 1)) / span level = omega arith in
    inr (part_to count (span level) (suc k) some part)

-- behind the last node no run begins
pub past_to : (count level k : ℕ) → width count level ≤ k → count ≤ k * span level
past_to count level k past = elim (cases_lt (k * span level) count) [
  | inl less ↦ absurd (let among = among_from count level k less in omega arith)
  | inr most ↦ most
]

pub width_root : (count top : ℕ) → IsTop count top → width count top ≡ 1
width_root count top is = elim (cases_lt 1 (width count top)) [
  | inl more ↦ elim (among_to count top 1 more) [
    | inl wrong ↦ absurd (omega arith)
    | inr less ↦ absurd (let holds = is.holds in omega arith)
  ]
  | inr most ↦ (let some = width_some count top in omega arith)
]

pub nodes_over_runs : (count level : ℕ) → HasNodesOverRuns count level
nodes_over_runs count level = record {
  each = λ k. (
    among_to count level k,
    λ there. elim there [
      | inl same ↦ (let some = width_some count level in omega arith)
      | inr less ↦ among_from count level k less
    ],
  );
  root = width_root count level;
}

top_within : (count n : ℕ) → count ≤ span n → (top : ℕ) × IsTop count top
top_within count zero fits = (0, record { holds = fits; lowest = λ level less. absurd (omega arith) })
top_within count (suc n) fits = elim (cases_lt (span n) count) [
  | inl more ↦ (
    suc n,
    record {
      holds = fits;
      lowest = λ level less. let under : level ≤ n = omega arith in let rises = span_rising level n under in omega arith;
    },
  )
  | inr most ↦ top_within count n most
]

top_order : (count top other : ℕ) → IsTop count top → IsTop count other → top < other → ⊥
top_order count top other is isnt less = let low = isnt.lowest top less in let holds = is.holds in omega arith

pub one_top : (count : ℕ) → HasOneTop count
one_top count = record {
  some = top_within count count (let over = span_over count in omega arith);
  one = λ top other is isnt. elim (cases_lt top other) [
    | inl less ↦ absurd (top_order count top other is isnt less)
    | inr rest ↦ elim (cases_lt other top) [
      | inl less ↦ absurd (top_order count other top isnt is less)
      | inr most ↦ omega arith
    ]
  ];
}

pub no_higher : (count top level : ℕ) → IsTop count top → count ≤ span level → top ≤ level
no_higher count top level is fits = elim (cases_lt level top) [
  | inl high ↦ absurd (let low = is.lowest level high in omega arith)
  | inr most ↦ most
]

pub same_top : (count top other : ℕ) → IsTop count top → IsTop count other → top ≡ other
same_top count = (one_top count).one

pub root_there : (count top : ℕ) → HasNode count top top 0
root_there count top = record { at_level = omega arith; among = width_some count top }

-- no other node stands at the root's level
pub root_alone : (count top k : ℕ) → IsTop count top → HasNode count top top k → k ≡ 0
root_alone count top k is has = let among = has.among in omega (arith, width_root count top is)

pub low_top : (count top : ℕ) → count ≤ longest_file → IsTop count top → top ≤ highest
low_top count top few is = let fits : count ≤ span 6 = omega arith in no_higher count top 6 is fits

-- where the level below the root's does not hold them
pub is_top : (count below : ℕ) → count ≤ span (suc below) → span below < count → IsTop count (suc below)
is_top count below fits more = record {
  holds = fits;
  lowest = λ level less. let under : level ≤ below = omega arith in let rises = span_rising level below under in omega arith;
}

pub is_leaf : (count : ℕ) → count ≤ fanout → IsTop count 0
is_leaf count few = record { holds = few; lowest = λ level less. absurd (omega arith) }
