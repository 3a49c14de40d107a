-- Each event has a step.
use Rattle.std.proofs.Common.{◌≡◌, ℕ, ◌+◌, nat_lt, Bool, true, false, List, [], Option, None, map, refl, sym, subst}
use Rattle.std.specs.Option.{is_some}
use Rattle.nesc_requests.specs.declared.event.Event.{Event}
use Rattle.nesc_requests.specs.declared.event.Event.TheVariants.{Restart}
use Rattle.file_model.specs.Files.{Change, staged}
use Rattle.plain_machine.specs.Functions.{AreSound}
use Rattle.plain_machine.specs.Machine.{Step, need, restarted}
use Rattle.plain_machine.specs.Misses.{HasNoTrees}
use Rattle.plain_machine.specs.State.{State, committed}
use Rattle.plain_machine.specs.declared.outcome.Answer.TheVariants as happened
use Rattle.plain_machine.specs.declared.outcome.Outcome.{Outcome}
use Rattle.plain_machine.specs.declared.setting.Setting.{Setting}
use Rattle.machine_laws.specs.Laws.{HasStep}
use Rattle.machine_laws.proofs.AfterCommit.{functions_committed}
use Rattle.machine_laws.proofs.Events.{IsNoRestart, come, come_comes}
use Rattle.machine_laws.proofs.HostAnswering.{clock_if}
use Rattle.machine_laws.proofs.Outcomes.{CanCome, nothing_given, outcome_of}
use Rattle.machine_laws.proofs.Stepping.{builds_none, come_committed, does_so}

is_some-clock_if : (due : Bool) (clock : ℕ) → is_some (clock_if due clock) ≡ due
is_some-clock_if true clock = refl
is_some-clock_if false clock = refl

module _ (setting : Setting) (old : State) where
  -- there is a step, without trees
  abbrev CanStep : Event → Type 0
  CanStep event =
      (changes : List Change) × (outcome : Outcome) × (new : State) × Step setting old event changes outcome new × HasNoTrees outcome

  -- the commit before an event with these changes, at clock 0 where it is due
  abbrev commit_for : Event → List Change → Option ℕ
  commit_for event changes = clock_if (nat_lt setting.geometry.slack (old.count + need old event changes)) 0

  steps_so : (event : Event) → IsNoRestart event → AreSound old.functions → CanStep event
  steps_so event goes sound =
      let coming = come setting old event nothing_given in
      let before = commit_for event coming.changes in
      let kept = committed before old in
      let still = subst AreSound (sym (functions_committed old before)) sound in
      let can = subst (CanCome setting kept event before) (come_committed setting old event nothing_given before) (come_comes setting kept before event goes still) in
      let outcome = outcome_of before coming in
      let new = committed coming.after (record {
        now = can.leads.0;
        kept = kept.kept;
        functions = coming.functions;
        last = coming.last;
        count = kept.count + staged coming.changes;
      }) in (
        coming.changes,
        outcome,
        new,
        record {
          due = is_some-clock_if _ 0;
          does = does_so setting kept coming.changes outcome new event goes (record {
            files = can.leads.0;
            functions = coming.functions;
            last = coming.last;
            comes = can.comes;
            builds = builds_none event;
            leads = can.leads.1;
            result = refl;
          });
        },
        record { walks = can.walks; no_leaf = can.no_leaf; no_drops = refl; no_path = refl },
      )

  restarts_so : CanStep Restart
  restarts_so =
      let before = commit_for Restart [] in
      let kept = committed before old in (
        [],
        record { before = before; answer = happened.Restarted; drops = 0; built = None; after = None; reply = None },
        record { now = kept.kept; kept = kept.kept; functions = map restarted kept.functions; last = 0; count = 0 },
        record {
          due = is_some-clock_if _ 0;
          does = record { told = refl; no_drops = refl; no_path = refl; no_commit = refl; silent = refl; unchanged = refl; result = refl };
        },
        record { walks = refl; no_leaf = refl; no_drops = refl; no_path = refl },
      )

pub has_step : (event : Event) → HasStep event
has_step Restart setting old sound = restarts_so setting old
has_step event setting old sound = steps_so setting old event tt sound
