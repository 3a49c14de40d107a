-- An event has one step with what is given.
use Rattle.std.proofs.Common.{◌≡◌, ℕ, ◌+◌, nat_lt, List, Option, map, refl, sym, ap, ◌∙◌, subst}
use Rattle.std.specs.Option.{is_some}
use Rattle.nesc_base.specs.Files.{Files, IsFileSet}
use Rattle.nesc_requests.specs.declared.event.Event.{Event}
use Rattle.nesc_requests.specs.declared.event.Event.TheVariants.{Restart}
use Rattle.file_model.specs.Files.{Change, LeadsTo, staged}
use Rattle.file_model.proofs.OneChange.{leads_one}
use Rattle.plain_machine.specs.Given.{AreGivenAlike, clock_of}
use Rattle.plain_machine.specs.Machine.{Moves, Restarts, Step, need, restarted}
use Rattle.plain_machine.specs.State.{State, committed}
use Rattle.plain_machine.specs.declared.outcome.Outcome.{Outcome}
use Rattle.plain_machine.specs.declared.setting.Setting.{Setting}
use Rattle.machine_laws.specs.Laws.{HasOneStep}
use Rattle.machine_laws.proofs.AfterCommit.{now_committed}
use Rattle.machine_laws.proofs.Events.{come, come_one}
use Rattle.machine_laws.proofs.HostAnswering.{clock_if, clock_one}
use Rattle.machine_laws.proofs.Outcomes.{Coming, coming_of, given_with}
use Rattle.machine_laws.proofs.Stepping.{come_committed, moves_so}

-- two commits, or none, at one clock are the same
one_clock : (one other : Option ℕ) → is_some one ≡ is_some other → clock_of one ≡ clock_of other → one ≡ other
one_clock one other some clock =
    clock_one one (is_some one) refl ∙ (λ i. clock_if (some i) (clock i)) ∙ sym (clock_one other (is_some other) refl)

module _ (setting : Setting) (old : State) (set : IsFileSet old.now) (event : Event) where
  -- what an event came to behind a commit, or none, is what it comes to
  moved_one : (before : Option ℕ) (changes : List Change) (outcome : Outcome) (new : State)
      (moves : Moves setting (committed before old) event changes outcome new)
      → coming_of outcome changes moves.functions moves.last ≡ come setting old event (given_with outcome.answer outcome.reply outcome.after)
  moved_one before changes outcome new moves =
      let still = subst IsFileSet (sym (now_committed old before)) set in
      come_one setting (committed before old) outcome changes moves.functions moves.last event moves.files still moves.comes moves.leads
      ∙ come_committed setting old event _ before

  -- where its changes lead from the files that there were
  moved_to : (before : Option ℕ) (changes : List Change) (outcome : Outcome) (new : State)
      (moves : Moves setting (committed before old) event changes outcome new) → LeadsTo old.now changes moves.files
  moved_to before changes outcome new moves = subst (λ (from : Files). LeadsTo from changes moves.files) (now_committed old before) moves.leads

module _ (setting : Setting) (old : State) (set : IsFileSet old.now) (event : Event) (here there : List Change) (one other : Outcome)
    (first second : State) (alike : AreGivenAlike one other) (step : Step setting old event here one first) (again : Step setting old event there other second) where
  -- the changes, the outcome and the state are the same
  abbrev AreOne : Type 0
  AreOne = (here ≡ there) × (one ≡ other) × (first ≡ second)

  -- with the same changes the commit before the event is the same
  commits_one : here ≡ there → one.before ≡ other.before
  commits_one changes =
      one_clock one.before other.before
      (step.due ∙ ap (λ (changes : List Change). nat_lt setting.geometry.slack (old.count + need old event changes)) changes ∙ sym again.due)
      alike.clocks_before

  given_one : given_with one.answer one.reply one.after ≡ given_with other.answer other.reply other.after
  given_one = λ i. record {
    way = alike.ways i;
    leaf = alike.leaves i;
    failed_get = alike.gets i;
    failed_read = alike.reads i;
    clock = alike.clocks_after i;
  }

  moves_one : Moves setting (committed one.before old) event here one first → Moves setting (committed other.before old) event there other second → AreOne
  moves_one moves moved =
      let same : coming_of one here moves.functions moves.last ≡ coming_of other there moved.functions moved.last =
      moved_one setting old set event one.before here one first moves
      ∙ ap (come setting old event) given_one
      ∙ sym (moved_one setting old set event other.before there other second moved) in
      let changes : here ≡ there = ap (λ (coming : Coming). coming.changes) same in
      let before = commits_one changes in
      let leads = subst (λ (changes : List Change). LeadsTo old.now changes moves.files) changes (moved_to setting old set event one.before here one first moves) in
      let files = leads_one old.now there moves.files moved.files leads (moved_to setting old set event other.before there other second moved) in (
        changes,
        λ i. record {
          before = before i;
          answer = (same i).answer;
          drops = alike.drops i;
          built = alike.paths i;
          after = (same i).after;
          reply = (same i).reply;
        },
        moves.result
            ∙ (λ i. committed (same i).after (record {
              now = files i;
              kept = (committed (before i) old).kept;
              functions = (same i).functions;
              last = (same i).last;
              count = (committed (before i) old).count + staged (changes i);
            }))
            ∙ sym moved.result,
      )

  restarts_one : Restarts (committed one.before old) here one first → Restarts (committed other.before old) there other second → AreOne
  restarts_one restarts restarted_so =
      let changes = restarts.unchanged ∙ sym restarted_so.unchanged in
      let before = commits_one changes in
      let answer = restarts.told ∙ sym restarted_so.told in
      let after = restarts.no_commit ∙ sym restarted_so.no_commit in
      let reply = restarts.silent ∙ sym restarted_so.silent in (
        changes,
        λ i. record {
          before = before i;
          answer = answer i;
          drops = alike.drops i;
          built = alike.paths i;
          after = after i;
          reply = reply i;
        },
        restarts.result
            ∙ (λ i. record {
              now = (committed (before i) old).kept;
              kept = (committed (before i) old).kept;
              functions = map restarted (committed (before i) old).functions;
              last = 0;
              count = 0;
            })
            ∙ sym restarted_so.result,
      )

pub one_step : (event : Event) → HasOneStep event
one_step Restart setting old here there one other first second set alike step again =
    restarts_one setting old set Restart here there one other first second alike step again step.does again.does
one_step event setting old here there one other first second set alike step again =
    moves_one setting old set event here there one other first second alike step again
    (moves_so setting (committed one.before old) here one first event tt step.does)
    (moves_so setting (committed other.before old) there other second event tt again.does)
