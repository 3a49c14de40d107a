-- A function that is runnable at each tick comes nearer with each that takes another, and so it is taken in time.
use Rattle.std.proofs.Common.{◌≡◌, ◌≢◌, ◌⊎◌, ℕ, ◌+◌, ◌<◌, ◌≤◌, inl, inr, true, List, [], ◌∷◌, length, Option, Some, refl, sym, ap, ◌∙◌, subst, ⊎_elim, arith}
use Rattle.std.specs.List.{AllByRecursion}
use Rattle.std.proofs.lemmas.Bool.{cases_eq}
use Rattle.nesc_requests.specs.declared.event.Event.{Event}
use Rattle.nesc_requests.specs.declared.event.Event.TheVariants.{Evict, Handle, Host, Prune, PruneAt, Restart, Submit, Tick}
use Rattle.file_model.specs.Files.{Change}
use Rattle.plain_machine.specs.Functions.{Function, is_runnable, next_runnable}
use Rattle.plain_machine.specs.Machine.{ComesTo, Does, Run, Step, StepTaken}
use Rattle.plain_machine.specs.State.{State, committed}
use Rattle.plain_machine.specs.declared.outcome.Outcome.{Outcome}
use Rattle.plain_machine.specs.declared.setting.Setting.{Setting}
use Rattle.machine_laws.specs.Laws.{IsTakenIn, IsTakenInTime, KeepsRunnable, one_if_tick, ticks_in}
use Rattle.machine_laws.proofs.AfterCommit.{functions_committed, last_committed}
use Rattle.machine_laws.proofs.Order.{distance, distance_below, nearer, never_none}
use Rattle.machine_laws.proofs.Runnable.{runnable_within}
use Rattle.machine_laws.proofs.Sounding.{functions_stay}

-- Which was taken last, after a step that is no tick and no restart

same_last : (setting : Setting) (old : State) (event : Event) (outcome : Outcome) (changes : List Change) (functions : List Function) (last : ℕ)
    → one_if_tick event ≡ 0 → ComesTo setting old event outcome changes functions last → last ≡ old.last
same_last setting old (Submit f request) outcome changes functions last quiet comes = comes.same_last
same_last setting old Tick outcome changes functions last quiet comes = absurd (omega arith)
same_last setting old (Host command) outcome changes functions last quiet comes = comes.same_last
same_last setting old (Handle f) outcome changes functions last quiet comes = comes.same_last
same_last setting old (Prune f) outcome changes functions last quiet comes = comes.same_last
same_last setting old (PruneAt f v) outcome changes functions last quiet comes = comes.same_last
same_last setting old Evict outcome changes functions last quiet comes = comes.same_last
same_last setting old Restart outcome changes functions last quiet comes = absurd comes

done_last : (setting : Setting) (old : State) (event : Event) (changes : List Change) (outcome : Outcome) (new : State)
    → one_if_tick event ≡ 0 → event ≢ Restart → Does setting old event changes outcome new → new.last ≡ old.last
done_last setting old Restart changes outcome new quiet goes_on does = absurd (goes_on refl)
done_last setting old event changes outcome new quiet goes_on does =
    ap (λ (state : State). state.last) does.result
    ∙ last_committed _ outcome.after
    ∙ same_last setting old event outcome changes does.functions does.last quiet does.comes

-- Whom a tick takes

next_committed : (old : State) (clock : Option ℕ)
    → next_runnable (committed clock old).functions (committed clock old).last ≡ next_runnable old.functions old.last
next_committed old clock = λ i. next_runnable (functions_committed old clock i) (last_committed old clock i)

module _ (setting : Setting) (old : State) (changes : List Change) (outcome : Outcome) (new : State) where
  -- a tick takes one, where one is runnable, and that is the last then
  tick_takes : (f : ℕ) → is_runnable old.functions f ≡ true → Step setting old Tick changes outcome new
      → (g : ℕ) × (next_runnable old.functions old.last ≡ Some g) × (new.last ≡ g)
  tick_takes f runnable step =
      let within = runnable_within old.functions f runnable in
      let next = sym (next_committed old outcome.before) in
      elim step.does.comes [
        | inl idle ↦
            absurd (never_none (is_runnable old.functions) old.last (length old.functions) f (next ∙ idle.none) runnable within.0 within.1)
        | inr takes ↦ (
          takes.f.0,
          next ∙ takes.next,
          ap (λ (state : State). state.last) step.does.result ∙ last_committed _ outcome.after ∙ takes.last_is,
        )
      ]

-- Ticks to come

module _ (setting : Setting) (f : ℕ) where
  -- so many ticks are to come that the function is taken by one of them
  record ComesUp (old : State) (left : ℕ) : Type 0 where
    some : 1 ≤ left
    near : 1 ≤ f → f ≤ length old.functions → distance old.last (length old.functions) f < left

  -- a step that is no tick leaves that as it is
  still : (event : Event) (old : State) (changes : List Change) (outcome : Outcome) (new : State) (left : ℕ) → one_if_tick event ≡ 0
      → event ≢ Restart → Step setting old event changes outcome new → ComesUp old (one_if_tick event + left) → ComesUp new left
  still event old changes outcome new left quiet goes_on step up =
      let count = (functions_stay event setting old changes outcome new step).0 in
      let last =
      done_last setting (committed outcome.before old) event changes outcome new quiet goes_on step.does ∙ last_committed old outcome.before in
      record {
        some = omega (arith, up.some);
        near = λ first within.
            let same : distance new.last (length new.functions) f ≡ distance old.last (length old.functions) f = λ i. distance (last i) (count i) f in
            let before : f ≤ length old.functions = omega (arith, count) in
            omega (arith, up.near first before);
      }

  -- a tick takes it, or it comes nearer
  ticked : (old : State) (changes : List Change) (outcome : Outcome) (new : State) (left : ℕ) → is_runnable old.functions f ≡ true
      → Step setting old Tick changes outcome new → ComesUp old (1 + left)
      → (next_runnable old.functions old.last ≡ Some f) ⊎ ComesUp new left
  ticked old changes outcome new left runnable step up =
      let within = runnable_within old.functions f runnable in
      let count = (functions_stay Tick setting old changes outcome new step).0 in
      let takes = tick_takes setting old changes outcome new f runnable step in
      ⊎_elim (λ (same : f ≡ takes.0). inl (takes.1 ∙ ap Some (sym same)))
      (λ (apart : f ≢ takes.0).
      let closer = nearer (is_runnable old.functions) old.last (length old.functions) takes.0 f takes.1 runnable within.0 within.1 apart in
      let before = up.near within.0 within.1 in
      inr (record {
        some = omega (arith, closer, before);
        near = λ first inside.
            let same : distance new.last (length new.functions) f ≡ distance takes.0 (length old.functions) f = λ i. distance (takes.2 i) (count i) f in
            omega (arith, closer, before);
      })) (cases_eq f takes.0)

  comes_up : (event : Event) (old : State) (changes : List Change) (outcome : Outcome) (new : State) (left : ℕ) → event ≢ Restart
      → (event ≡ Tick → is_runnable old.functions f ≡ true) → Step setting old event changes outcome new → ComesUp old (one_if_tick event + left)
      → ((event ≡ Tick) × (next_runnable old.functions old.last ≡ Some f)) ⊎ ComesUp new left
  comes_up Tick old changes outcome new left goes_on runnable step up =
      ⊎_elim (λ taken. inl (refl, taken)) inr (ticked old changes outcome new left (runnable refl) step up)
  comes_up event old changes outcome new left goes_on runnable step up =
      inr (still event old changes outcome new left refl goes_on step up)

  taken : (steps : List StepTaken) (old new : State) → ComesUp old (ticks_in steps) → AllByRecursion (KeepsRunnable f) steps
      → Run setting old steps new → IsTakenIn f steps
  taken [] old new up keeps run = absurd (omega (arith, up.some))
  taken (step ∷ steps) old new up keeps run =
      let here = subst (λ (from : State). ComesUp from (ticks_in (step ∷ steps))) (sym run.0) up in
      ⊎_elim inl (λ later. inr (taken steps step.new new later keeps.1 run.2))
      (comes_up step.event step.old step.changes step.outcome step.new (ticks_in steps) keeps.0.goes_on keeps.0.runnable run.1 here)

pub taken_in_time : (setting : Setting) (f : ℕ) → IsTakenInTime setting f
taken_in_time setting f old steps new some enough keeps run =
    taken setting f steps old new (record {
      some = omega arith;
      near = λ first within. omega (arith, distance_below old.last (length old.functions) f first within);
    }) keeps run
