-- Where the blocks of a file stand among runs.
use Rattle.std.proofs.Common.{◌≡◌, ◌⊎◌, ◌↔◌, inl, inr, ℕ, ◌+◌, ◌-◌, ◌<◌, max, List, Option, Some, None, MatchOption, slice_get, refl, sym, ap, ◌∙◌, subst, arith}
use Rattle.std.proofs.lemmas.Bool.{cases_order}
use Rattle.std.proofs.lemmas.Option.{same_Some}
use Rattle.nesc_base.specs.declared.runs.Run.{Run}
use Rattle.nesc_base.specs.Runs.{IsBehind}
use Rattle.block_map.specs.declared.held_runs.HeldRun.{HeldRun}
use Rattle.block_map.specs.Map.{BlockMap, IsLastHeld, IsNextHeld, IsNextRun, IsRunOf, StandsAt}
use Rattle.block_map.specs.Runs.{AreHeldRuns, IsAmong, IsLastAmong, IsNextAmong, IsOneOf}

-- what follows from each of two cases
pub either_case : {X : Type 0} {P Q : Type 0} {F G : X → Type 0} (found : Option X) → (P → Q) → ((x : X) → F x → G x) → MatchOption found P F → MatchOption found Q G
either_case None none some is = none is
either_case (Some x) none some is = some x is

-- of two runs of one file the later comes behind the earlier
behind : {runs : List HeldRun} → AreHeldRuns runs → (n j k : ℕ) (one next : HeldRun) → j < k → slice_get runs j ≡ Some one → slice_get runs k ≡ Some next → one.file.0 ≡ n → next.file.0 ≡ n → IsBehind one.run next.run
behind sound n j k one next before here there of also =
    elim (sound.rising j k one next before here there) [ inl less ↦ absurd (omega (arith, less, of, also)) | inr same ↦ same.1 ]

-- two runs of one file are one, or one comes behind the other
in_order : {runs : List HeldRun} → AreHeldRuns runs → (n j k : ℕ) (one other : HeldRun) → slice_get runs j ≡ Some one → slice_get runs k ≡ Some other → one.file.0 ≡ n → other.file.0 ≡ n
    → (one ≡ other) ⊎ (IsBehind one.run other.run ⊎ IsBehind other.run one.run)
in_order {runs} sound n j k one other here there of also =
    elim (cases_order j k) [
      | inl same ↦ inl (same_Some one other (sym here ∙ ap (slice_get runs) same ∙ there))
      | inr apart ↦
          elim apart [
            | inl before ↦ inr (inl (behind sound n j k one other before here there of also))
            | inr after ↦ inr (inr (behind sound n k j other one after there here also of))
          ]
    ]

-- a block of a file stands at one place
pub place_once : {runs : List HeldRun} {n v at other : ℕ} → AreHeldRuns runs → IsAmong runs n v at → IsAmong runs n v other → at ≡ other
place_once {runs} {n} sound one two =
    elim (in_order sound n one.k two.k one.held two.held one.stands two.stands one.file two.file) [
      | inl same ↦ omega (arith, one.within.place, two.within.place, ap (λ (h : HeldRun). h.run.first) same, ap (λ (h : HeldRun). h.run.place) same)
      | inr apart ↦
          elim apart [
            | inl is ↦ absurd (omega (arith, is.later, one.within.below, two.within.from))
            | inr is ↦ absurd (omega (arith, is.later, two.within.below, one.within.from))
          ]
    ]

-- Runs as the map shows them

-- one of the runs of a file is a whole run of it
pub whole_run : {runs : List HeldRun} (map : BlockMap) (n : ℕ) (run : Run) → AreHeldRuns runs → ((m v at : ℕ) → IsAmong runs m v at ↔ StandsAt map m v at) → IsOneOf runs n run → IsRunOf map n run
whole_run {runs} map n run sound same one =
    let held : HeldRun = one.1 in
    subst (IsRunOf map n) one.4 (record {
      is_run = sound.each one.0 held one.2;
      each = λ v at within. (same n v at).0 (record { k = one.0; held = held; stands = one.2; file = one.3; within = within });
      begins = λ v at first place standing.
          let other : IsAmong runs n v at = (same n v at).1 standing in
          elim (in_order sound n one.0 other.k held other.held one.2 other.stands one.3 other.file) [
            | inl is ↦ omega (arith, first, other.within.from, ap (λ (h : HeldRun). h.run.first) is)
            | inr apart ↦
                elim apart [
                  | inl is ↦ omega (arith, first, is.later, other.within.from)
                  | inr is ↦
                      is.apart (omega (arith, first, is.later, other.within.below)) (omega (arith, first, place, is.later, other.within.from, other.within.below, other.within.place))
                ]
          ];
      ends = λ standing.
          let other : IsAmong runs n (held.run.first + held.run.count) (held.run.place + held.run.count) = (same n (held.run.first + held.run.count) (held.run.place + held.run.count)).1 standing in
          elim (in_order sound n one.0 other.k held other.held one.2 other.stands one.3 other.file) [
            | inl is ↦ omega (arith, other.within.below, ap (λ (h : HeldRun). h.run.first) is, ap (λ (h : HeldRun). h.run.count) is)
            | inr apart ↦
                elim apart [
                  | inl is ↦
                      is.apart (omega (arith, is.later, other.within.from)) (omega (arith, is.later, other.within.from, other.within.place))
                  | inr is ↦ omega (arith, is.later, other.within.below, (sound.each one.0 held one.2).some)
                ]
          ];
    })

pub next_run : {runs : List HeldRun} (map : BlockMap) (n from : ℕ) (run : Run) → AreHeldRuns runs → ((m v at : ℕ) → IsAmong runs m v at ↔ StandsAt map m v at) → IsNextAmong runs n from run → IsNextRun map n from run
next_run map n from run sound same next = record {
  whole = whole_run map n run sound same next.one;
  behind = next.behind;
  first = λ v past before at standing. next.first v past before at ((same n v at).1 standing);
}

-- the first block from one on is in the run that is the first from there on
pub next_held : (map : BlockMap) (n from v : ℕ) (run : Run) → v ≡ max run.first from → IsNextRun map n from run → IsNextHeld map n from v (run.place + (v - run.first))
next_held map n from v run is next = record {
  behind = omega (arith, is);
  stands = next.whole.each v (run.place + (v - run.first)) (record {
    from = omega (arith, is);
    below = omega (arith, is, next.behind, next.whole.is_run.some);
    place = refl;
  });
  first = λ w past before. next.first w past (omega (arith, is, past, before));
}

-- the last block is the last of the last run
pub last_held : {runs : List HeldRun} (map : BlockMap) (n : ℕ) (run : Run) → AreHeldRuns runs → ((m v at : ℕ) → IsAmong runs m v at ↔ StandsAt map m v at) → IsLastAmong runs n run
    → IsLastHeld map n (run.first + (run.count - 1)) (run.place + (run.count - 1))
last_held map n run sound same last =
    let whole : IsRunOf map n run = whole_run map n run sound same last.one in
    record {
      stands = whole.each (run.first + (run.count - 1)) (run.place + (run.count - 1)) (record {
        from = omega arith;
        below = omega (arith, whole.is_run.some);
        place = omega arith;
      });
      last = λ v past at standing. last.last v (omega (arith, past, whole.is_run.some)) at ((same n v at).1 standing);
    }
