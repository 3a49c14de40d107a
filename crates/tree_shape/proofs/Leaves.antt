-- The runs of a leaf, and the leaf of a run.
use Rattle.std.proofs.Common.{◌≡◌, inl, inr, ℕ, zero, suc, ◌+◌, ◌-◌, ◌*◌, ◌/◌, ◌%◌, ◌^◌, ◌<◌, ◌≤◌, min, List, [], ◌∷◌, length, take, drop, Some, slice_get, refl, sym, ap, ◌∙◌, arith, length-drop, length-take}
use Rattle.std.proofs.lemmas.Nat.{div-add-mod'}
use Rattle.std.proofs.lemmas.Option.{slice_get_within}
use Rattle.nesc_base.specs.declared.runs.Run.{Run}
use Rattle.nesc_base.specs.Runs.{AreRuns}
use Rattle.tree_shape.specs.Laws.{HoldsRuns, LeadsToRuns, MissesNoRun, StandsInLeaf}
use Rattle.tree_shape.specs.Shape.{Covers, border, fanout, leaf_runs}
use Rattle.tree_shape.proofs.Beginnings.{begin_first, ends_before, first_is, first_rising}
use Rattle.tree_shape.proofs.Borders.{border_begin, cover_among, cover_one}
use Rattle.tree_shape.proofs.Spans.{among_to}

get-drop : {X : Type 0} (n : ℕ) (xs : List X) (k : ℕ) → slice_get (drop n xs) k ≡ slice_get xs (n + k)
get-drop zero xs k = let same : k ≡ 0 + k = omega arith in ap (λ (i : ℕ). slice_get xs i) same
get-drop (suc n) [] k = refl
get-drop (suc n) (x ∷ xs) k = let same : suc n + k ≡ suc (n + k) = omega arith in
    get-drop n xs k ∙ sym (ap (λ (i : ℕ). slice_get (x ∷ xs) i) same)

get-take : {X : Type 0} (n : ℕ) (xs : List X) (k : ℕ) → k < n → slice_get (take n xs) k ≡ slice_get xs k
get-take zero xs k less = absurd (omega arith)
get-take (suc n) [] k less = refl
get-take (suc n) (x ∷ xs) zero less = refl
get-take (suc n) (x ∷ xs) (suc k) less = let within : k < n = omega arith in get-take n xs k within

-- how many runs a leaf has
pub leaf_length : (runs : List Run) (k : ℕ) → length (leaf_runs runs k) ≡ min fanout (length runs - k * fanout)
leaf_length runs k = length-take 10 (drop (k * 10) runs) ∙ ap (λ (n : ℕ). min 10 n) (length-drop (k * 10) runs)

-- the run of a leaf at a place
pub leaf_at : (runs : List Run) (k j : ℕ) → j < fanout → slice_get (leaf_runs runs k) j ≡ slice_get runs (k * fanout + j)
leaf_at runs k j within = get-take 10 (drop (k * 10) runs) j within ∙ get-drop (k * 10) runs j

leaf_within : (runs : List Run) (k j : ℕ) (run : Run) → slice_get (leaf_runs runs k) j ≡ Some run → j < fanout
leaf_within runs k j run is = omega (arith, slice_get_within (leaf_runs runs k) j run is, leaf_length runs k)

leaf_run : (runs : List Run) (k j : ℕ) (run : Run) → slice_get (leaf_runs runs k) j ≡ Some run → slice_get runs (k * fanout + j) ≡ Some run
leaf_run runs k j run is = sym (leaf_at runs k j (leaf_within runs k j run is)) ∙ is

-- a leaf begins by its first run, and the first leaf with block 0
border_by : (runs : List Run) → AreRuns runs → (k j : ℕ) (run : Run) → k * fanout ≤ j → slice_get runs j ≡ Some run → border runs 0 k ≤ run.first
border_by runs are zero j run low is = omega arith
border_by runs are (suc k) j run low is =
    let some : 0 < suc k * 10 = omega arith in
    let same : suc k * 10 ^ (0 + 1) ≡ suc k * 10 = omega arith in
    omega (arith, border_begin runs 0 (suc k), begin_first runs (suc k * 10) some, first_rising runs are (suc k * 10) j low, first_is runs j run is)

border_behind : (runs : List Run) → AreRuns runs → (k j : ℕ) (run : Run) → j < (k + 1) * fanout → slice_get runs j ≡ Some run
    → run.first + run.count ≤ border runs 0 (k + 1)
border_behind runs are k j run high is =
    let some : 0 < (k + 1) * 10 = omega arith in
    omega (arith, border_begin runs 0 (k + 1), begin_first runs ((k + 1) * 10) some, ends_before runs are j ((k + 1) * 10) run is high)

pub holds_runs : (runs : List Run) (k : ℕ) → AreRuns runs → HoldsRuns runs k
holds_runs runs k are = record {
  most = omega (arith, leaf_length runs k);
  some = λ any there. elim (among_to (length runs) 0 k there) [
    | inl none ↦ omega (arith, leaf_length runs k)
    | inr less ↦ omega (arith, leaf_length runs k)
  ];
  from = λ j run is.
      let low : k * 10 ≤ k * 10 + j = omega arith in
      border_by runs are k (k * 10 + j) run low (leaf_run runs k j run is);
  to = λ j run is.
      let within = leaf_within runs k j run is in
      let high : k * 10 + j < (k + 1) * 10 = omega arith in
      border_behind runs are k (k * 10 + j) run high (leaf_run runs k j run is);
}

-- each run is of the leaf with its place's tens
pub stands_in_leaf : (runs : List Run) (j : ℕ) → StandsInLeaf runs j
stands_in_leaf runs j =
    let within : j % 10 < 10 = omega arith in
    leaf_at runs (j / 10) (j % 10) within ∙ ap (λ (i : ℕ). slice_get runs i) (div-add-mod' j 10)

pub leads_to_runs : (runs : List Run) → AreRuns runs → LeadsToRuns runs
leads_to_runs runs are j run v at is isin =
    let low : j / 10 * 10 ≤ j = omega arith in
    let high : j < (j / 10 + 1) * 10 = omega arith in
    let begins = border_by runs are (j / 10) j run low is in
    let ends = border_behind runs are (j / 10) j run high is in
    let from = isin.from in
    let below = isin.below in
    let covers : Covers runs 0 (j / 10) v = record { from = omega arith; below = omega arith } in
    record { has = cover_among runs 0 (j / 10) v covers; covers = covers }

pub misses_no_run : (runs : List Run) → AreRuns runs → MissesNoRun runs
misses_no_run runs are v leaf over misses j run at is isin =
    let leads = leads_to_runs runs are j run v at is isin in
    let same : j / 10 ≡ leaf = cover_one runs are 0 (j / 10) leaf v leads.covers over.covers in
    let stands = ap (λ (k : ℕ). slice_get (leaf_runs runs k) (j % 10)) (sym same) ∙ stands_in_leaf runs j ∙ is in
    misses (j % 10) run at stands isin
