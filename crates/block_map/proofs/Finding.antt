-- What a binary search among runs in order finds.
use Rattle.std.proofs.Common.{◌≡◌, ◌↔◌, inl, inr, ℕ, ◌<◌, ◌≤◌, Bool, true, false, leb, ltb, List, length, get_or, slice_get, Some, sym, ap, ◌∙◌, arith}
use Rattle.std.specs.List.Sorted.{IsPartitionedBy, IsPartitionPoint}
use Rattle.std.proofs.lemmas.Bool.{cases_lt}
use Rattle.std.proofs.lemmas.Bool.Decides.{nat_tests}
use Rattle.std.proofs.lemmas.Option.{get_or_from_slice_get, slice_get-get_or, slice_get_cases, slice_get_within}
use Rattle.block_map.specs.declared.held_runs.HeldRun.{HeldRun}
use Rattle.block_map.specs.Runs.{AreHeldRuns, BeginsBy, BeginsPast, IsBefore, begins_by}

-- what a partition point tells of the elements before it and of those from it on
pub passes_before : {X : Type 0} (p : X → Bool) (xs : List X) (i k : ℕ) (x : X) → IsPartitionPoint (λ y. p y ≡ true) (λ y. p y ≡ false) xs i
    → k < i → slice_get xs k ≡ Some x → p x ≡ true
passes_before p xs i k x point less stands = ap p (sym (get_or_from_slice_get xs k x x stands)) ∙ point.0 k x (omega arith) less

pub fails_behind : {X : Type 0} (p : X → Bool) (xs : List X) (i k : ℕ) (x : X) → IsPartitionPoint (λ y. p y ≡ true) (λ y. p y ≡ false) xs i
    → i ≤ k → slice_get xs k ≡ Some x → p x ≡ false
fails_behind p xs i k x point least stands = ap p (sym (get_or_from_slice_get xs k x x stands)) ∙ point.1 k x least (slice_get_within xs k x stands)

-- where each element that stands before another passes with it
pub parted_by : (p : HeldRun → Bool) (runs : List HeldRun) → AreHeldRuns runs → ((one next : HeldRun) → IsBefore one next → p next ≡ true → p one ≡ true)
    → IsPartitionedBy p runs
parted_by p runs are passes i j d most within passed = elim (cases_lt i j) [
  | inl less ↦ passes (get_or runs i d) (get_or runs j d)
      (are.rising i j (get_or runs i d) (get_or runs j d) less (slice_get-get_or runs i d (omega arith)) (slice_get-get_or runs j d within)) passed
  | inr high ↦ (let same : i ≡ j = omega arith in ap (λ k. p (get_or runs k d)) same ∙ passed)
]

-- by where they begin
pub begins_true : (n v : ℕ) (held : HeldRun) → begins_by n v held ≡ true → BeginsBy n v held
begins_true n v held passes = grind (arith, nat_tests)

pub begins_false : (n v : ℕ) (held : HeldRun) → begins_by n v held ≡ false → BeginsPast n v held
begins_false n v held fails = grind (arith, nat_tests)

true_begins : (n v : ℕ) (held : HeldRun) → BeginsBy n v held → begins_by n v held ≡ true
true_begins n v held begins = grind (arith, nat_tests)

begins_with : (n v : ℕ) (one next : HeldRun) → IsBefore one next → BeginsBy n v next → BeginsBy n v one
begins_with n v one next (inl less) (inl low) = inl (omega arith)
begins_with n v one next (inl less) (inr here) = inl (let same = here.0 in omega arith)
begins_with n v one next (inr within) (inl low) = inl (let same = within.0 in omega arith)
begins_with n v one next (inr within) (inr here) = inr (within.0 ∙ here.0, (let later = within.1.later in let most = here.1 in omega arith))

pub parted_by_begins : (n v : ℕ) (runs : List HeldRun) → AreHeldRuns runs → IsPartitionedBy (begins_by n v) runs
parted_by_begins n v runs are = parted_by (begins_by n v) runs are
    (λ one next before passes. true_begins n v one (begins_with n v one next before (begins_true n v next passes)))

-- by their files
below_file : (n : ℕ) (one next : HeldRun) → IsBefore one next → ltb next.file.0 n ≡ true → ltb one.file.0 n ≡ true
below_file n one next (inl less) passes = grind (arith, nat_tests)
below_file n one next (inr within) passes = ap (λ m. ltb m n) within.0 ∙ passes

up_to_file : (n : ℕ) (one next : HeldRun) → IsBefore one next → leb next.file.0 n ≡ true → leb one.file.0 n ≡ true
up_to_file n one next (inl less) passes = grind (arith, nat_tests)
up_to_file n one next (inr within) passes = ap (λ m. leb m n) within.0 ∙ passes

pub parted_below_file : (n : ℕ) (runs : List HeldRun) → AreHeldRuns runs → IsPartitionedBy (λ held. ltb held.file.0 n) runs
parted_below_file n runs are = parted_by (λ held. ltb held.file.0 n) runs are (below_file n)

pub parted_up_to_file : (n : ℕ) (runs : List HeldRun) → AreHeldRuns runs → IsPartitionedBy (λ held. leb held.file.0 n) runs
parted_up_to_file n runs are = parted_by (λ held. leb held.file.0 n) runs are (up_to_file n)

-- the places of a file's runs, where the ones before them are of lower numbers and the ones behind them of higher ones
pub record IsBounded (runs : List HeldRun) (n from to : ℕ) : Type 0 where
  pub low : IsPartitionPoint (λ held. ltb held.file.0 n ≡ true) (λ held. ltb held.file.0 n ≡ false) runs from
  pub high : IsPartitionPoint (λ held. leb held.file.0 n ≡ true) (λ held. leb held.file.0 n ≡ false) runs to
  pub from_within : from ≤ length runs
  pub to_within : to ≤ length runs

module _ (runs : List HeldRun) (n from to : ℕ) (bounded : IsBounded runs n from to) where
  below : (k : ℕ) (held : HeldRun) → k < from → slice_get runs k ≡ Some held → held.file.0 < n
  below k held less stands = let passes = passes_before (λ h. ltb h.file.0 n) runs from k held bounded.low less stands in grind (arith, nat_tests)

  from_on : (k : ℕ) (held : HeldRun) → from ≤ k → slice_get runs k ≡ Some held → n ≤ held.file.0
  from_on k held least stands = let fails = fails_behind (λ h. ltb h.file.0 n) runs from k held bounded.low least stands in grind (arith, nat_tests)

  up_to : (k : ℕ) (held : HeldRun) → k < to → slice_get runs k ≡ Some held → held.file.0 ≤ n
  up_to k held less stands = let passes = passes_before (λ h. leb h.file.0 n) runs to k held bounded.high less stands in grind (arith, nat_tests)

  past : (k : ℕ) (held : HeldRun) → to ≤ k → slice_get runs k ≡ Some held → n < held.file.0
  past k held least stands = let fails = fails_behind (λ h. leb h.file.0 n) runs to k held bounded.high least stands in grind (arith, nat_tests)

  pub bounds_rise : from ≤ to
  bounds_rise = elim (cases_lt to from) [
    | inr rising ↦ rising
    | inl less ↦ absurd (
        elim (slice_get_cases runs to).1 [
          | inl some ↦ (
              let under = below to some.0 less some.2 in
              let over = past to some.0 (omega arith) some.2 in
              omega arith)
          | inr none ↦ (let short = none.0 in let within = bounded.from_within in omega arith)
        ])
  ]

  pub bounds_each : (k : ℕ) (held : HeldRun) → slice_get runs k ≡ Some held → (held.file.0 ≡ n) ↔ ((from ≤ k) × (k < to))
  bounds_each k held stands = (
    λ same. (
      elim (cases_lt k from) [ inl less ↦ absurd (let under = below k held less stands in omega arith) | inr least ↦ least ],
      elim (cases_lt k to) [ inl less ↦ less | inr least ↦ absurd (let over = past k held least stands in omega arith) ],
    ),
    λ within. (let least = from_on k held within.0 stands in let most = up_to k held within.1 stands in omega arith),
  )
