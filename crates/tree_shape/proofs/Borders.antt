-- The nodes of a level divide the blocks that a file may have.
use Rattle.std.proofs.Common.{◌≡◌, ◌⊎◌, ◌↔◌, inl, inr, ℕ, zero, suc, ◌+◌, ◌-◌, ◌*◌, ◌/◌, ◌<◌, ◌≤◌, min, List, length, sym, ap, ◌∙◌, add-one, arith}
use Rattle.std.proofs.Math.Nat.{mul-le-mul_right}
use Rattle.std.proofs.lemmas.Bool.{cases_lt}
use Rattle.nesc_base.specs.declared.runs.Run.{Run}
use Rattle.nesc_base.specs.Files.{longest_file}
use Rattle.nesc_base.specs.Runs.{AreRuns}
use Rattle.tree_shape.specs.Laws.{HangsUnder, HasChildren, HasOneNodeOver, HasRisingBorders, HasWholeRoot}
use Rattle.tree_shape.specs.Shape.{Covers, HasNode, IsTop, border, children, fanout, span, width}
use Rattle.tree_shape.proofs.Beginnings.{begin, begin_first, begin_past, begin_rising, begin_strictly, begin_within}
use Rattle.tree_shape.proofs.Spans.{among_from, among_to, past_to, span_above, span_some, width_root, width_some}

-- a node begins where its first run does, and the first of a level where the file does
pub border_begin : (runs : List Run) (level k : ℕ) → border runs level k ≡ begin runs (k * span level)
border_begin runs level zero = let none : 0 ≡ 0 * span level = omega arith in ap (λ (m : ℕ). begin runs m) none
border_begin runs level (suc k) =
    let some : 0 < suc k * span level = omega (arith, span_some level) in
    sym (begin_first runs (suc k * span level) some)

pub border_from_first : (runs : List Run) (level k : ℕ) → k * span level ≡ 0 → border runs level k ≡ 0
border_from_first runs level k none = border_begin runs level k ∙ ap (λ (m : ℕ). begin runs m) none

pub border_past : (runs : List Run) (level k : ℕ) → 0 < k * span level → length runs ≤ k * span level → border runs level k ≡ longest_file
border_past runs level k some past = border_begin runs level k ∙ begin_past runs (k * span level) some past

pub border_within : (runs : List Run) → AreRuns runs → (level k : ℕ) → border runs level k ≤ longest_file
border_within runs are level k = omega (arith, border_begin runs level k, begin_within runs are (k * span level))

pub border_rising : (runs : List Run) → AreRuns runs → (level j k : ℕ) → j ≤ k → border runs level j ≤ border runs level k
border_rising runs are level j k under =
    let places : j * span level ≤ k * span level = mul-le-mul_right (span level) under in
    omega (arith, border_begin runs level j, border_begin runs level k, begin_rising runs are (j * span level) (k * span level) places)

place_among : (count level j : ℕ) → (j ≡ 0) ⊎ (j * span level < count) → (j * span level ≡ 0) ⊎ (j * span level < count)
place_among count level j (inl none) = let zeroth : 0 * span level ≡ 0 = omega arith in inl (ap (λ (i : ℕ). i * span level) none ∙ zeroth)
place_among count level j (inr less) = inr less

pub border_strictly : (runs : List Run) → AreRuns runs → (level j k : ℕ) → j < width (length runs) level → j < k → border runs level j < border runs level k
border_strictly runs are level j k there less =
    let above : j + 1 ≤ k = omega arith in
    let up : (j + 1) * span level ≤ k * span level = mul-le-mul_right (span level) above in
    let places : j * span level < k * span level = omega (arith, span_some level) in
    let among = place_among (length runs) level j (among_to (length runs) level j there) in
    omega (arith, border_begin runs level j, border_begin runs level k, begin_strictly runs are (j * span level) (k * span level) among places)

pub border_end : (runs : List Run) (level k : ℕ) → width (length runs) level ≤ k → border runs level k ≡ longest_file
border_end runs level k past =
    let over : 1 ≤ k = omega (arith, width_some (length runs) level) in
    let up : 1 * span level ≤ k * span level = mul-le-mul_right (span level) over in
    let some : 0 < k * span level = omega (arith, span_some level) in
    border_past runs level k some (past_to (length runs) level k past)

pub rising_borders : (runs : List Run) (level : ℕ) → AreRuns runs → HasRisingBorders runs level
rising_borders runs level are = record {
  first = omega arith;
  rising = border_strictly runs are level;
  inside = λ k there. let less : k < k + 1 = omega arith in
      let strict = border_strictly runs are level k (k + 1) there less in
      let within = border_within runs are level (k + 1) in
      omega arith;
  end = border_end runs level;
}

-- where values begin by v and come past it, there is a last one by v
last_by : (f : ℕ → ℕ) (v n : ℕ) → f 0 ≤ v → v < f n → (k : ℕ) × (k < n) × (f k ≤ v) × (v < f (k + 1))
last_by f v zero low high = absurd (omega arith)
last_by f v (suc n) low high = elim (cases_lt v (f n)) [
  | inl less ↦ (let found = last_by f v n low less in (found.0, (omega arith), found.2, found.3))
  | inr by ↦ (let same : f (suc n) ≡ f (n + 1) = ap f (sym (add-one n)) in (n, (omega arith), by, (omega arith)))
]

pub cover_some : (runs : List Run) (level v : ℕ) → v < longest_file → (k : ℕ) × (k < width (length runs) level) × Covers runs level k v
cover_some runs level v filed =
    let all : width (length runs) level ≤ width (length runs) level = omega arith in
    let low : border runs level 0 ≤ v = omega arith in
    let high : v < border runs level (width (length runs) level) = omega (arith, border_end runs level (width (length runs) level) all) in
    let found = last_by (border runs level) v (width (length runs) level) low high in
    (found.0, found.1, record { from = found.2; below = found.3 })

pub cover_among : (runs : List Run) (level k v : ℕ) → Covers runs level k v → k < width (length runs) level
cover_among runs level k v covers = elim (cases_lt k (width (length runs) level)) [
  | inl there ↦ there
  | inr past ↦ absurd (let next : width (length runs) level ≤ k + 1 = omega arith in
      let here = border_end runs level k past in let behind = border_end runs level (k + 1) next in
      let from = covers.from in let below = covers.below in omega arith)
]

cover_order : (runs : List Run) → AreRuns runs → (level j k v : ℕ) → Covers runs level j v → Covers runs level k v → j < k → ⊥
cover_order runs are level j k v one other less =
    let above : j + 1 ≤ k = omega arith in
    let rises = border_rising runs are level (j + 1) k above in
    let below = one.below in
    let from = other.from in
    omega arith

pub cover_one : (runs : List Run) → AreRuns runs → (level j k v : ℕ) → Covers runs level j v → Covers runs level k v → j ≡ k
cover_one runs are level j k v one other = elim (cases_lt j k) [
  | inl less ↦ absurd (cover_order runs are level j k v one other less)
  | inr rest ↦ elim (cases_lt k j) [
    | inl less ↦ absurd (cover_order runs are level k j v other one less)
    | inr most ↦ omega arith
  ]
]

pub one_node_over : (runs : List Run) (level v : ℕ) → AreRuns runs → v < longest_file → HasOneNodeOver runs level v
one_node_over runs level v are filed = record {
  some = cover_some runs level v filed;
  among = λ k covers. cover_among runs level k v covers;
  one = λ j k one other. cover_one runs are level j k v one other;
}

pub whole_root : (runs : List Run) (top : ℕ) → IsTop (length runs) top → HasWholeRoot runs top
whole_root runs top is v filed =
    let past : width (length runs) top ≤ 0 + 1 = omega (arith, width_root (length runs) top is) in
    record { from = omega arith; below = let end = border_end runs top (0 + 1) past in omega arith }

-- from a level to the one above

pub border_above : (runs : List Run) (level k : ℕ) → border runs (level + 1) k ≡ border runs level (k * fanout)
border_above runs level k =
    let same : k * span (level + 1) ≡ k * fanout * span level = ap (λ (s : ℕ). k * s) (span_above level) ∙ omega arith in
    border_begin runs (level + 1) k ∙ ap (λ (m : ℕ). begin runs m) same ∙ sym (border_begin runs level (k * fanout))

pub among_above : (count level k : ℕ) → k < width count level → k / fanout < width count (level + 1)
among_above count level k there = elim (among_to count level k there) [
  | inl none ↦ omega (arith, width_some count (level + 1))
  | inr less ↦ (let under : k / 10 * 10 ≤ k = omega arith in
      let places : k / 10 * 10 * span level ≤ k * span level = mul-le-mul_right (span level) under in
      let same : k / 10 * span (level + 1) ≡ k / 10 * (10 * span level) = ap (λ (s : ℕ). k / 10 * s) (span_above level) in
      let place : k / 10 * span (level + 1) < count = omega arith in
      among_from count (level + 1) (k / 10) place)
]

pub among_below : (count level k : ℕ) → k < width count (level + 1) → k * fanout < width count level
among_below count level k there = elim (among_to count (level + 1) k there) [
  | inl none ↦ omega (arith, width_some count level)
  | inr less ↦ (let same : k * span (level + 1) ≡ k * (10 * span level) = ap (λ (s : ℕ). k * s) (span_above level) in
      let place : k * 10 * span level < count = omega arith in
      among_from count level (k * 10) place)
]

pub hangs_under : (runs : List Run) (top level k : ℕ) → AreRuns runs → HasNode (length runs) top level k → level < top → HangsUnder runs top level k
hangs_under runs top level k are has less =
    let low : k / 10 * 10 ≤ k = omega arith in
    let high : k + 1 ≤ (k / 10 + 1) * 10 = omega arith in
    record {
      has = record { at_level = omega arith; among = among_above (length runs) level k has.among };
      from = omega (arith, border_above runs level (k / 10), border_rising runs are level (k / 10 * 10) k low);
      to = omega (arith, border_above runs level (k / 10 + 1), border_rising runs are level (k + 1) ((k / 10 + 1) * 10) high);
    }

child_each : (w k c : ℕ) → k * 10 < w → ((c < w) × (c / 10 ≡ k)) ↔ ((k * 10 ≤ c) × (c < k * 10 + min 10 (w - k * 10)))
child_each w k c there = (λ h. let less = h.0 in let same = h.1 in ((omega arith), (omega arith)), λ h. let low = h.0 in let high = h.1 in ((omega arith), (omega arith)))

children_end : (runs : List Run) (level k : ℕ) → k * fanout < width (length runs) level
    → border runs level (k * fanout + children (length runs) level k) ≡ border runs (level + 1) (k + 1)
children_end runs level k there = elim (cases_lt (width (length runs) level) ((k + 1) * 10)) [
  | inl less ↦ (let past : width (length runs) level ≤ k * 10 + children (length runs) level k = omega arith in
      let over : width (length runs) level ≤ (k + 1) * 10 = omega arith in
      border_end runs level (k * 10 + children (length runs) level k) past ∙ sym (border_above runs level (k + 1) ∙ border_end runs level ((k + 1) * 10) over))
  | inr most ↦ (let same : k * 10 + children (length runs) level k ≡ (k + 1) * 10 = omega arith in
      ap (λ (i : ℕ). border runs level i) same ∙ sym (border_above runs level (k + 1)))
]

pub has_children : (runs : List Run) (level k : ℕ) → k < width (length runs) (level + 1) → HasChildren runs level k
has_children runs level k there =
    let first = among_below (length runs) level k there in
    record {
      some = omega arith;
      most = omega arith;
      each = λ c. child_each (width (length runs) level) k c first;
      begin = sym (border_above runs level k);
      end = children_end runs level k first;
    }

-- a child of a node that is there is there
pub child_there : (runs : List Run) (top level k c : ℕ) → HasNode (length runs) top (level + 1) k → k * fanout ≤ c
    → c < k * fanout + children (length runs) level k → HasNode (length runs) top level c
child_there runs top level k c has low high =
    let at_level = has.at_level in
    record { at_level = omega arith; among = (((has_children runs level k has.among).each c).1 (low, high)).0 }

pub child_of : (runs : List Run) (top level k c : ℕ) → HasNode (length runs) top (level + 1) k → k * fanout ≤ c
    → c < k * fanout + children (length runs) level k → c / fanout ≡ k
child_of runs top level k c has low high = (((has_children runs level k has.among).each c).1 (low, high)).1
