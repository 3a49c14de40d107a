-- The runs of one file among those of all.
use Rattle.std.proofs.Common.{◌≡◌, ◌↔◌, inl, inr, ℕ, zero, suc, ◌+◌, ◌-◌, ◌<◌, ◌≤◌, List, length, get_or, map, take, drop, slice_get, Some, sym, ap, ◌∙◌, subst, arith}
use Rattle.std.proofs.lemmas.Bool.{cases_lt}
use Rattle.std.proofs.lemmas.Option.{slice_get-get_or, slice_get_within}
use Rattle.nesc_base.specs.declared.runs.Run.{Run}
use Rattle.nesc_base.specs.Files.{longest_file}
use Rattle.nesc_base.specs.Runs.{AreRuns, IsBehind, IsIn, IsRun}
use Rattle.block_map.specs.declared.held_runs.HeldRun.{HeldRun}
use Rattle.block_map.specs.Runs.{AreHeldRuns, AreRunsAmong}
use Rattle.block_map.proofs.Parts.{at_between, at_map, between_at, map_at}

-- the runs of file n stand from one place on up to another
module _ (runs : List HeldRun) (n from to : ℕ) (are : AreHeldRuns runs)
    (each : (k : ℕ) (held : HeldRun) → slice_get runs k ≡ Some held → (held.file.0 ≡ n) ↔ ((from ≤ k) × (k < to))) where
  abbrev its_runs : List Run
  its_runs = map (λ held. held.run) (take (to - from) (drop from runs))

  -- each of them is one of the runs
  of_all : (k : ℕ) (run : Run) → slice_get its_runs k ≡ Some run → (held : HeldRun) × (slice_get runs (from + k) ≡ Some held) × (held.file.0 ≡ n) × (held.run ≡ run)
  of_all k run stands =
      let source = at_map (λ (h : HeldRun). h.run) (take (to - from) (drop from runs)) k run stands in
      let there = at_between runs from to k source.0 source.1 in
      let less = there.0 in
      (source.0, there.1, (each (from + k) source.0 there.1).1 (omega arith, omega arith), source.2)

  pub are_of_file : AreRuns its_runs
  are_of_file = record {
    each = λ k run stands. (let one = of_all k run stands in subst IsRun one.3 (are.each (from + k) one.0 one.1));
    rising = λ k run other stands there. (
        let one = of_all k run stands in
        let next = of_all (k + 1) other there in
        let file = one.2 in
        let same = next.2 in
        elim (are.rising (from + k) (from + (k + 1)) one.0 next.0 (omega arith) one.1 next.1) [
          | inl less ↦ absurd (omega arith)
          | inr within ↦ subst (IsBehind run) next.3 (subst (λ (r : Run). IsBehind r next.0.run) one.3 within.1)
        ]);
  }

  pub are_among_of_file : AreRunsAmong runs n its_runs
  are_among_of_file = record {
    are = are_of_file;
    each = λ v at. (
      λ among. (
          let places = (each among.k among.held among.stands).0 among.file in
          let least = places.0 in (
            among.k - from,
            among.held.run,
            map_at (λ (h : HeldRun). h.run) (take (to - from) (drop from runs)) (among.k - from) among.held (between_at runs from to among.k (among.k - from) among.held (omega arith) places.1 among.stands),
            among.within,
          )),
      λ one. (
          let source = of_all one.0 one.1 one.2 in
          record { k = from + one.0; held = source.0; stands = source.1; file = source.2; within = subst (λ (r : Run). IsIn r v at) (sym source.3) one.3 }),
    );
  }

-- How many runs a file may have

begins_from : (runs : List Run) → AreRuns runs → (k : ℕ) (run : Run) → slice_get runs k ≡ Some run → k ≤ run.first
begins_from runs are zero run stands = omega arith
begins_from runs are (suc k) run stands =
    let before : Run = get_or runs k run in
    let within = slice_get_within runs (suc k) run stands in
    let there : slice_get runs k ≡ Some before = slice_get-get_or runs k run (omega arith) in
    let least = begins_from runs are k before there in
    let some = (are.each k before there).some in
    let next : suc k ≡ k + 1 = omega arith in
    let later = (are.rising k before run there (ap (slice_get runs) (sym next) ∙ stands)).later in
    omega arith

-- one for each of its blocks at most
pub few_runs : (runs : List Run) → AreRuns runs → length runs ≤ longest_file
few_runs runs are = elim (cases_lt longest_file (length runs)) [
  | inr few ↦ few
  | inl many ↦ absurd (
      let none : Run = record { first = 0; count = 0; place = 0 } in
      let past : Run = get_or runs longest_file none in
      let there : slice_get runs longest_file ≡ Some past = slice_get-get_or runs longest_file none many in
      let least = begins_from runs are longest_file past there in
      let some = (are.each longest_file past there).some in
      let filed = (are.each longest_file past there).filed in
      omega arith)
]
