-- Where in the file the run at a place begins, and the places behind the last.
use Rattle.std.proofs.Common.{◌≡◌, ◌⊎◌, inl, inr, ℕ, zero, suc, ◌+◌, ◌-◌, ◌<◌, ◌≤◌, List, length, Option, Some, slice_get, refl, ap, ◌∙◌, arith}
use Rattle.std.specs.Option.{option_map_or}
use Rattle.std.proofs.lemmas.Bool.{cases_lt}
use Rattle.std.proofs.lemmas.Option.{slice_get_cases, slice_get_past}
use Rattle.nesc_base.specs.declared.runs.Run.{Run}
use Rattle.nesc_base.specs.Files.{longest_file}
use Rattle.nesc_base.specs.Runs.{AreRuns}

-- the first block of the run at a place, or behind the last the end of what a file may have
abbrev pub first_at : List Run → ℕ → ℕ
first_at runs m = option_map_or (λ (run : Run). run.first) (slice_get runs m) longest_file

pub first_is : (runs : List Run) (m : ℕ) (run : Run) → slice_get runs m ≡ Some run → first_at runs m ≡ run.first
first_is runs m run is = ap (λ (o : Option Run). option_map_or (λ (r : Run). r.first) o longest_file) is

pub first_past : (runs : List Run) (m : ℕ) → length runs ≤ m → first_at runs m ≡ longest_file
first_past runs m past = ap (λ (o : Option Run). option_map_or (λ (r : Run). r.first) o longest_file) (slice_get_past runs m past)

first_most : (runs : List Run) → AreRuns runs → (m : ℕ) → first_at runs m ≤ longest_file
first_most runs are m = elim ((slice_get_cases runs m).1) [
  | inl here ↦ (let filed = (are.each m here.0 here.2).filed in let first = first_is runs m here.0 here.2 in omega arith)
  | inr there ↦ (let past = first_past runs m there.0 in omega arith)
]

ends_next : (runs : List Run) → AreRuns runs → (m : ℕ) (run : Run) → slice_get runs m ≡ Some run → run.first + run.count ≤ first_at runs (m + 1)
ends_next runs are m run is = elim ((slice_get_cases runs (m + 1)).1) [
  | inl here ↦ (let later = (are.rising m run here.0 is here.2).later in let first = first_is runs (m + 1) here.0 here.2 in omega arith)
  | inr there ↦ (let filed = (are.each m run is).filed in let past = first_past runs (m + 1) there.0 in omega arith)
]

first_next : (runs : List Run) → AreRuns runs → (m : ℕ) → first_at runs m ≤ first_at runs (m + 1)
first_next runs are m = elim ((slice_get_cases runs m).1) [
  | inl here ↦ (let first = first_is runs m here.0 here.2 in let ends = ends_next runs are m here.0 here.2 in omega arith)
  | inr there ↦ (let low = there.0 in let high : length runs ≤ m + 1 = omega arith in
      let past = first_past runs m low in let behind = first_past runs (m + 1) high in omega arith)
]

first_on : (runs : List Run) → AreRuns runs → (m d : ℕ) → first_at runs m ≤ first_at runs (m + d)
first_on runs are m zero = let same : first_at runs (m + 0) ≡ first_at runs m = ap (λ (i : ℕ). first_at runs i) (omega arith) in omega arith
first_on runs are m (suc d) =
    let same : first_at runs (m + d + 1) ≡ first_at runs (m + suc d) = ap (λ (i : ℕ). first_at runs i) (omega arith) in
    let more = first_next runs are (m + d) in
    omega (arith, first_on runs are m d)

pub first_rising : (runs : List Run) → AreRuns runs → (m n : ℕ) → m ≤ n → first_at runs m ≤ first_at runs n
first_rising runs are m n under =
    let same : first_at runs (m + (n - m)) ≡ first_at runs n = ap (λ (i : ℕ). first_at runs i) (omega arith) in
    omega (arith, first_on runs are m (n - m))

-- a run ends before each later one begins
pub ends_before : (runs : List Run) → AreRuns runs → (m n : ℕ) (run : Run) → slice_get runs m ≡ Some run → m < n → run.first + run.count ≤ first_at runs n
ends_before runs are m n run is less =
    let above : m + 1 ≤ n = omega arith in
    omega (arith, ends_next runs are m run is, first_rising runs are (m + 1) n above)

first_strictly : (runs : List Run) → AreRuns runs → (m n : ℕ) → m < length runs → m < n → first_at runs m < first_at runs n
first_strictly runs are m n there less = elim ((slice_get_cases runs m).1) [
  | inl here ↦ (let some = (are.each m here.0 here.2).some in let first = first_is runs m here.0 here.2 in
      let ends = ends_before runs are m n here.0 here.2 less in omega arith)
  | inr past ↦ absurd (let wrong = past.0 in omega arith)
]

place_most : (runs : List Run) → AreRuns runs → (m : ℕ) → m ≤ length runs → m ≤ first_at runs m
place_most runs are zero within = omega arith
place_most runs are (suc m) within =
    let there : m < length runs = omega arith in
    let less : m < suc m = omega arith in
    let under : m ≤ length runs = omega arith in
    omega (arith, first_strictly runs are m (suc m) there less, place_most runs are m under)

-- a file has no more runs than blocks
pub few_runs : (runs : List Run) → AreRuns runs → length runs ≤ longest_file
few_runs runs are =
    let all : length runs ≤ length runs = omega arith in
    omega (arith, place_most runs are (length runs) all, first_past runs (length runs) all)

-- With which block a node begins whose first run is at a place: the first node of a level has the blocks before its first
-- run too.
abbrev pub begin : List Run → ℕ → ℕ
begin runs zero = 0
begin runs (suc m) = first_at runs (suc m)

pub begin_first : (runs : List Run) (m : ℕ) → 0 < m → begin runs m ≡ first_at runs m
begin_first runs zero some = absurd (omega arith)
begin_first runs (suc m) some = refl

begin_most : (runs : List Run) (m : ℕ) → begin runs m ≤ first_at runs m
begin_most runs zero = omega arith
begin_most runs (suc m) = omega arith

pub begin_within : (runs : List Run) → AreRuns runs → (m : ℕ) → begin runs m ≤ longest_file
begin_within runs are m = omega (arith, begin_most runs m, first_most runs are m)

pub begin_rising : (runs : List Run) → AreRuns runs → (m n : ℕ) → m ≤ n → begin runs m ≤ begin runs n
begin_rising runs are m zero under = let none : m ≡ 0 = omega arith in let same : begin runs m ≡ begin runs 0 = ap (λ (i : ℕ). begin runs i) none in omega arith
begin_rising runs are m (suc n) under = omega (arith, begin_most runs m, first_rising runs are m (suc n) under)

begin_above : (runs : List Run) → AreRuns runs → (n : ℕ) → 0 < n → 0 < first_at runs n
begin_above runs are n some = elim (cases_lt n (length runs)) [
  | inl within ↦ (let any : 0 < length runs = omega arith in let more = first_strictly runs are 0 n any some in omega arith)
  | inr past ↦ (let end = first_past runs n past in omega arith)
]

pub begin_strictly : (runs : List Run) → AreRuns runs → (m n : ℕ) → (m ≡ 0) ⊎ (m < length runs) → m < n → begin runs m < begin runs n
begin_strictly runs are m n (inl none) less =
    let some : 0 < n = omega arith in
    let zeroth : begin runs m ≡ begin runs 0 = ap (λ (i : ℕ). begin runs i) none in
    omega (arith, begin_above runs are n some, begin_first runs n some)
begin_strictly runs are m n (inr there) less =
    let some : 0 < n = omega arith in
    omega (arith, begin_most runs m, first_strictly runs are m n there less, begin_first runs n some)

pub begin_past : (runs : List Run) (m : ℕ) → 0 < m → length runs ≤ m → begin runs m ≡ longest_file
begin_past runs m some past = begin_first runs m some ∙ first_past runs m past
