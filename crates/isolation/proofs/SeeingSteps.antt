-- Each step and each run, as one function and one file see it.
use Rattle.std.proofs.Common.{◌≡◌, ◌≢◌, ℕ, ◌+◌, ◌==◌, ◌&&◌, Bool, true, false, cond, List, [], ◌∷◌, ◌++◌, append-nil, append_assoc, filter, Option, Some, None, option_map, refl, sym, ap, ◌∙◌, subst, ⊎_elim}
use Rattle.std.specs.FinMap.{get}
use Rattle.std.proofs.lemmas.Bool.{and_parts, cases_eq, cond_both, eq-eqb, eqb-true}
use Rattle.nesc_base.specs.Files.{Files}
use Rattle.nesc_base.specs.declared.numbers.FnNo.{FnNo}
use Rattle.nesc_requests.specs.Script.{with_numbered}
use Rattle.nesc_requests.specs.declared.event.Event.{Event}
use Rattle.nesc_requests.specs.declared.event.Event.TheVariants.{Evict, Handle, Host, Prune, PruneAt, Restart, Submit, Tick}
use Rattle.nesc_requests.specs.declared.request.Request.{Request}
use Rattle.file_model.specs.Files.{Change, LeadsTo, staged}
use Rattle.plain_machine.specs.Functions.{Attached, Function, attached_of, function_at, has_file}
use Rattle.plain_machine.specs.Machine.{ComesTo, Does, GivesUp, Moves, Restarts, Run, Step, StepTaken}
use Rattle.plain_machine.specs.State.{State, committed}
use Rattle.plain_machine.specs.Submissions.{Submits, with_request}
use Rattle.plain_machine.specs.declared.outcome.Answer.{Answer}
use Rattle.plain_machine.specs.declared.outcome.Answer.TheVariants as answer
use Rattle.plain_machine.specs.declared.outcome.Outcome.{Outcome}
use Rattle.plain_machine.specs.declared.setting.Setting.{Setting}
use Rattle.isolation.specs.History.{OwnEvent, OwnLine, asked, data_of, has, is_of, lines_in, lines_of, own_in, own_of, own_of_commit, own_of_event, own_of_queued, replies_of, restarted}
use Rattle.isolation.specs.Laws.{IsToldAlone, SeesNoOther}
use Rattle.isolation.specs.Solo.{Solo, SoloRun, desk_of, solo_in}
use Rattle.isolation.proofs.AtDesk.{attached_at, attached_restarted, attached_with_other, attached_with_same, attached_with_still, desk_with, desk_without, no_desk}
use Rattle.isolation.proofs.NamesApart.{AreNamedApart, HasNamesApart, named_committed, named_done}
use Rattle.isolation.proofs.OneRun.{one_solo_run}
use Rattle.isolation.proofs.Seeing.{Sees, desk_in, run_append, run_commit, run_one, sees_as, sees_nothing, solo_with}
use Rattle.isolation.proofs.SeeingHandlings.{sees_handling}
use Rattle.isolation.proofs.SeeingHost.{sees_host}
use Rattle.isolation.proofs.SeeingTurns.{sees_tick}

module _ (f : FnNo) (n : ℕ) (old : State) (changes : List Change) (files : Files) (functions : List Function) (leads : LeadsTo old.now changes files) where
  abbrev SeesThen : List OwnEvent → List OwnLine → Type 0
  SeesThen events lines = Sees f n old events lines files functions

  -- nothing happens
  quiet : changes ≡ [] → desk_in f n old functions ≡ desk_in f n old old.functions → SeesThen [] []
  quiet none same = sees_nothing f n old changes files functions leads (ap (filter (is_of n)) none) same

  -- Requests that are handed in

  module _ (g : FnNo) (request : Request) (after : Function) (left : functions ≡ with_numbered old.functions g.0 after) (none : changes ≡ []) where
    desk_of_other : g.0 ≢ f.0 → desk_in f n old functions ≡ desk_in f n old old.functions
    desk_of_other apart =
        ap (desk_of n)
        (ap (λ (functions : List Function). attached_of functions f.0) left
        ∙ attached_with_other old.functions f.0 g.0 after (λ same. apart (sym same)))

    -- a function that keeps what it has
    desk_still : after.attached ≡ (function_at old.functions g.0).attached → desk_in f n old functions ≡ desk_in f n old old.functions
    desk_still still =
        ⊎_elim (λ (same : g.0 ≡ f.0).
        ap (desk_of n)
        (ap (attached_of functions) (sym same)
        ∙ ap (λ (functions : List Function). attached_of functions g.0) left
        ∙ attached_with_still old.functions g.0 after still
        ∙ ap (attached_of old.functions) same))
        desk_of_other (cases_eq g.0 f.0)

    abbrev is_mine : Bool
    is_mine = g.0 == f.0 && has old.functions f.0 n

    -- the request comes back
    sees_back : after ≡ function_at old.functions g.0 → SeesThen (cond is_mine [] []) []
    sees_back back =
        let same = desk_still (ap (λ (function : Function). function.attached) back) in
        cond_both is_mine _ _ (λ (events : List OwnEvent). SeesThen events []) (λ _. quiet none same) (λ _. quiet none same)

    -- it waits
    sees_queued : (before : Attached) (id : ℕ) → (function_at old.functions g.0).attached ≡ Some before → after.attached ≡ Some (with_request before id request)
        → SeesThen (cond is_mine (asked id request ∷ []) []) []
    sees_queued before id on is =
        let was : attached_of old.functions g.0 ≡ Some before = attached_at old.functions g.0 ∙ on in
        let now : attached_of functions g.0 ≡ Some (with_request before id request) =
        ap (λ (functions : List Function). attached_of functions g.0) left ∙ attached_with_same old.functions g.0 after before was ∙ is in
        cond_both is_mine _ _ (λ (events : List OwnEvent). SeesThen events [])
        (λ both.
        let parts = and_parts (g.0 == f.0) (has old.functions f.0 n) both in
        let same = eqb-true g.0 f.0 parts.0 in
        let mine : attached_of old.functions f.0 ≡ Some before = ap (attached_of old.functions) (sym same) ∙ was in
        let then : attached_of functions f.0 ≡ Some (with_request before id request) = ap (attached_of functions) (sym same) ∙ now in
        let here : (before.file == n) ≡ true = sym (ap (has_file n) mine) ∙ parts.1 in
        let file : get files n ≡ get old.now n =
        ap (λ (files : Files). get files n) (subst (λ (changes : List Change). LeadsTo old.now changes files) none leads) in
        let desk : desk_in f n old functions ≡ option_map (λ (desk : Attached). with_request desk id request) (desk_in f n old old.functions) =
        ap (desk_of n) then
        ∙ desk_with n (with_request before id request) here
        ∙ sym (ap (option_map (λ (desk : Attached). with_request desk id request)) (ap (desk_of n) mine ∙ desk_with n before here)) in
        run_one f n (solo_in f n old) (asked id request) [] (solo_with f n old files functions)
        (refl, λ i. record { now = file i; last_kept = get old.kept n; desk = desk i }))
        (λ neither.
        ⊎_elim (λ (same : g.0 ≡ f.0).
        let without : has old.functions f.0 n ≡ false = sym (ap (λ b. b && has old.functions f.0 n) (eq-eqb g.0 f.0 same)) ∙ neither in
        let mine : attached_of old.functions f.0 ≡ Some before = ap (attached_of old.functions) (sym same) ∙ was in
        let then : attached_of functions f.0 ≡ Some (with_request before id request) = ap (attached_of functions) (sym same) ∙ now in
        let here : (before.file == n) ≡ false = sym (ap (has_file n) mine) ∙ without in
        quiet none
        (ap (desk_of n) then ∙ desk_without n (with_request before id request) here ∙ sym (no_desk n (attached_of old.functions f.0) without)))
        (λ (apart : g.0 ≢ f.0). quiet none (desk_of_other apart)) (cases_eq g.0 f.0))

    sees_submitted : (most : ℕ) (came : Answer) → Submits most (function_at old.functions g.0) request came after
        → SeesThen (cond is_mine (own_of_queued request came) []) []
    sees_submitted most (answer.Off back) submits = sees_back submits.2
    sees_submitted most (answer.Full back) submits = sees_back submits.2
    sees_submitted most (answer.Queued id) submits =
        let became : after.attached ≡ Some (with_request submits.attached id request) =
        ap (λ (function : Function). function.attached) submits.result ∙ ap (λ (id : ℕ). Some (with_request submits.attached id request)) (sym submits.id_is) in
        sees_queued submits.attached id submits.on became
    sees_submitted most came submits = absurd submits

  -- What an event comes to

  module _ (setting : Setting) (apart : AreNamedApart old.now) (outcome : Outcome) (last : ℕ) where
    sees_given_up : (told : Answer → Type 0) → GivesUp old told outcome changes functions last → SeesThen [] (replies_of f.0 n old outcome.reply)
    sees_given_up told up =
        sees_as f n old [] [] _ [] files functions refl (ap (replies_of f.0 n old) up.silent) (quiet up.unchanged (ap (desk_in f n old) up.same))

    sees_come : (event : Event) → ComesTo setting old event outcome changes functions last
        → SeesThen (own_of_event f.0 n old event outcome changes) (data_of n old event outcome.answer ++ replies_of f.0 n old outcome.reply)
    sees_come (Submit g request) comes =
        sees_as f n old _ _ _ [] files functions refl (ap (replies_of f.0 n old) comes.silent)
        (sees_submitted g request comes.submits.after comes.submits.others comes.unchanged setting.machine.queue outcome.answer comes.submits.becomes)
    sees_come Tick comes = sees_tick f n old outcome changes functions last files leads comes
    sees_come (Host command) comes = sees_host f n old apart changes files functions leads setting command outcome last comes
    sees_come (Handle g) comes = sees_handling f n old g outcome changes functions files leads comes.handles
    sees_come (Prune g) comes = sees_given_up _ comes
    sees_come (PruneAt g v) comes = sees_given_up _ comes
    sees_come Evict comes = sees_given_up _ comes
    sees_come Restart comes = absurd comes

module _ (f : FnNo) (n : ℕ) (setting : Setting) where
  -- An event, with the commit that it makes

  -- what is told of it
  abbrev told_of : State → Event → Outcome → List OwnLine
  told_of old event outcome = data_of n old event outcome.answer ++ replies_of f.0 n old outcome.reply

  module _ (old : State) (apart : AreNamedApart old.now) (changes : List Change) (outcome : Outcome) (new : State) where
    abbrev SeesDone : Event → Type 0
    SeesDone event =
        SoloRun f n (solo_in f n old) (own_of_event f.0 n old event outcome changes ++ own_of_commit outcome.after) (told_of old event outcome) (solo_in f n new)

    sees_moved : (event : Event) → Moves setting old event changes outcome new → SeesDone event
    sees_moved event moves =
        let then : State = record { now = moves.files; kept = old.kept; functions = moves.functions; last = moves.last; count = old.count + staged changes } in
        let sees = sees_come f n old changes moves.files moves.functions moves.leads setting apart outcome moves.last event moves.comes in
        let lines = told_of old event outcome in
        subst (λ (new : State). SoloRun f n (solo_in f n old) (own_of_event f.0 n old event outcome changes ++ own_of_commit outcome.after) lines (solo_in f n new))
        (sym moves.result)
        (subst (λ (lines : List OwnLine). SoloRun f n (solo_in f n old) (own_of_event f.0 n old event outcome changes ++ own_of_commit outcome.after) lines (solo_in f n (committed outcome.after then)))
        (append-nil lines)
        (run_append f n (solo_in f n old) (own_of_event f.0 n old event outcome changes) (own_of_commit outcome.after) lines [] (solo_in f n then)
        (solo_in f n (committed outcome.after then)) sees (run_commit f n outcome.after then)))

    sees_restarted : Restarts old changes outcome new → SeesDone Restart
    sees_restarted restarts =
        let ends : solo_in f n new ≡ record { now = get old.kept n; last_kept = get old.kept n; desk = None } =
        ap (solo_in f n) restarts.result
        ∙ (λ i. record { now = get old.kept n; last_kept = get old.kept n; desk = desk_of n (attached_restarted old.functions f.0 i) }) in
        let here : SoloRun f n (solo_in f n old) (restarted ∷ []) [] (solo_in f n new) =
        run_one f n (solo_in f n old) restarted [] (solo_in f n new) (refl, ends) in
        subst (λ (events : List OwnEvent). SoloRun f n (solo_in f n old) (restarted ∷ events) (told_of old Restart outcome) (solo_in f n new))
        (sym (ap own_of_commit restarts.no_commit))
        (subst (λ (lines : List OwnLine). SoloRun f n (solo_in f n old) (restarted ∷ []) lines (solo_in f n new))
        (sym (ap (replies_of f.0 n old) restarts.silent)) here)

    sees_does : (event : Event) → Does setting old event changes outcome new → SeesDone event
    sees_does Restart does = sees_restarted does
    sees_does event does = sees_moved event does

  -- Steps

  -- a commit before an event changes nothing of what is told of it
  events_committed : (before : Option ℕ) (old : State) (event : Event) (outcome : Outcome) (changes : List Change)
      → own_of_event f.0 n (committed before old) event outcome changes ≡ own_of_event f.0 n old event outcome changes
  events_committed None old event outcome changes = refl
  events_committed (Some at) old event outcome changes = refl

  told_committed : (before : Option ℕ) (old : State) (event : Event) (outcome : Outcome)
      → told_of (committed before old) event outcome ≡ told_of old event outcome
  told_committed None old event outcome = refl
  told_committed (Some at) old event outcome = refl

  sees_step : (old : State) (event : Event) (changes : List Change) (outcome : Outcome) (new : State) → HasNamesApart old
      → Step setting old event changes outcome new
      → SoloRun f n (solo_in f n old) (own_of_commit outcome.before ++ own_of_event f.0 n old event outcome changes ++ own_of_commit outcome.after)
      (told_of old event outcome) (solo_in f n new)
  sees_step old event changes outcome new named step =
      let then = committed outcome.before old in
      let own = own_of_event f.0 n old event outcome changes in
      let after = own_of_commit outcome.after in
      let done = sees_does then (named_committed outcome.before old named).now changes outcome new event step.does in
      let alike : SoloRun f n (solo_in f n then) (own ++ after) (told_of old event outcome) (solo_in f n new) =
      subst (λ (lines : List OwnLine). SoloRun f n (solo_in f n then) (own ++ after) lines (solo_in f n new)) (told_committed outcome.before old event outcome)
      (subst (λ (events : List OwnEvent). SoloRun f n (solo_in f n then) (events ++ after) (told_of then event outcome) (solo_in f n new))
      (events_committed outcome.before old event outcome changes) done) in
      subst (λ (events : List OwnEvent). SoloRun f n (solo_in f n old) events (told_of old event outcome) (solo_in f n new))
      (sym (append_assoc (own_of_commit outcome.before) own after))
      (run_append f n (solo_in f n old) (own_of_commit outcome.before) (own ++ after) [] (told_of old event outcome) (solo_in f n then) (solo_in f n new)
      (run_commit f n outcome.before old) alike)

  -- Runs

  sees_run : (old : State) (steps : List StepTaken) (new : State) → HasNamesApart old → Run setting old steps new
      → SoloRun f n (solo_in f n old) (own_in f.0 n steps) (lines_in f.0 n steps) (solo_in f n new)
  sees_run old [] new named run = (refl, ap (solo_in f n) run)
  sees_run old (step ∷ steps) new named run =
      let from : HasNamesApart step.old = subst HasNamesApart (sym run.0) named in
      let later = named_done setting (committed step.outcome.before step.old) step.event step.changes step.outcome step.new
      (named_committed step.outcome.before step.old from) run.1.does in
      let one = sees_step step.old step.event step.changes step.outcome step.new from run.1 in
      let rest = sees_run step.new steps new later run.2 in
      subst (λ (old : State). SoloRun f n (solo_in f n old) (own_in f.0 n (step ∷ steps)) (lines_in f.0 n (step ∷ steps)) (solo_in f n new)) run.0
      (run_append f n (solo_in f n step.old) (own_of f.0 n step) (own_in f.0 n steps) (lines_of f.0 n step) (lines_in f.0 n steps) (solo_in f n step.new)
      (solo_in f n new) one rest)

pub told_alone : (f : FnNo) (n : ℕ) → IsToldAlone f n
told_alone f n setting old steps new sets run =
    sees_run f n setting old steps new (record { now = sets.now.apart; kept = sets.kept.apart }) run

-- two runs with one history tell the same
pub sees_no_other : (f : FnNo) (n : ℕ) → SeesNoOther f n
sees_no_other f n setting other_setting one other steps others first second sets other_sets run other_run begins same =
    let here = told_alone f n setting one steps first sets run in
    let there = told_alone f n other_setting other others second other_sets other_run in
    let alike : SoloRun f n (solo_in f n other) (own_in f.0 n others) (lines_in f.0 n steps) (solo_in f n first) =
    subst (λ (from : Solo). SoloRun f n from (own_in f.0 n others) (lines_in f.0 n steps) (solo_in f n first)) begins
    (subst (λ (events : List OwnEvent). SoloRun f n (solo_in f n one) events (lines_in f.0 n steps) (solo_in f n first)) same here) in
    (one_solo_run f n (solo_in f n other) (own_in f.0 n others) (lines_in f.0 n steps) (lines_in f.0 n others) (solo_in f n first) (solo_in f n second)
    alike there).0
