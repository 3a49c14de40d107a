-- The runs of a file that holds every second block, at places one behind the other: for tests.
use Rattle.std.proofs.Common.{◌≡◌, ℕ, ◌+◌, ◌*◌, ◌<◌, ◌≤◌, List, map, length, Some, None, slice_get, sym, ap, subst, ◌∙◌, arith}
use Rattle.std.specs.List.{range_with_len}
use Rattle.std.proofs.lemmas.List.FromFn.{get_or-map-range_with_len, length-map-range_with_len}
use Rattle.std.proofs.lemmas.Option.{same_Some, slice_get-get_or, slice_get_past, slice_get_within}
use Rattle.nesc_base.specs.declared.runs.Run.{Run}
use Rattle.nesc_base.specs.Runs.{AreRuns, IsBehind, IsRun}

abbrev pub spaced_run : ℕ → Run
spaced_run k = record { first = 2 * k; count = 1; place = 275 + k }

abbrev pub spaced : ℕ → List Run
spaced n = map (λ k. spaced_run k) (range_with_len 0 n)

pub spaced_length : (n : ℕ) → n ≡ length (spaced n)
spaced_length n = sym (length-map-range_with_len (λ k. spaced_run k) 0 n)

pub spaced_some : (n k : ℕ) → k < n → Some (spaced_run k) ≡ slice_get (spaced n) k
spaced_some n k within =
    let there : k < length (spaced n) = omega (arith, spaced_length n) in
    let place : 0 + k ≡ k = omega arith in
    sym (slice_get-get_or (spaced n) k (spaced_run 0) there ∙ ap (λ (run : Run). Some run) (get_or-map-range_with_len (λ k. spaced_run k) 0 n k k (spaced_run 0) within place))

pub spaced_none : (n k : ℕ) → n ≤ k → None ≡ slice_get (spaced n) k
spaced_none n k past = let behind : length (spaced n) ≤ k = omega (arith, spaced_length n) in sym (slice_get_past (spaced n) k behind)

spaced_is : (n k : ℕ) (run : Run) → slice_get (spaced n) k ≡ Some run → spaced_run k ≡ run
spaced_is n k run is =
    let within : k < n = omega (arith, slice_get_within (spaced n) k run is, spaced_length n) in
    same_Some (spaced_run k) run (spaced_some n k within ∙ is)

spaced_within : (n k : ℕ) (run : Run) → slice_get (spaced n) k ≡ Some run → k < n
spaced_within n k run is = omega (arith, slice_get_within (spaced n) k run is, spaced_length n)

pub spaced_are : (n : ℕ) → n ≤ 65536 → AreRuns (spaced n)
spaced_are n few = record {
  each = λ k run is.
      let within = spaced_within n k run is in
      subst IsRun (spaced_is n k run is) (record { some = omega arith; filed = omega arith; placed = omega arith });
  rising = λ k one next here there.
      subst (λ (r : Run). IsBehind r next) (spaced_is n k one here) (subst (λ (r : Run). IsBehind (spaced_run k) r) (spaced_is n (k + 1) next there)
      (record { later = omega arith; apart = λ e. absurd (omega arith) }));
}
