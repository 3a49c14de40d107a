-- What an event does behind a commit it does without that commit too.
use Rattle.std.proofs.Common.{ℕ, ◌+◌, List, Option, None, Some, inl, inr, refl}
use Rattle.nesc_requests.specs.declared.event.Event.{Event}
use Rattle.nesc_requests.specs.declared.event.Event.TheVariants.{Evict, Handle, Host, Prune, PruneAt, Restart, Submit, Tick}
use Rattle.file_model.specs.Files.{Change, staged}
use Rattle.plain_machine.specs.Functions.{Function}
use Rattle.plain_machine.specs.Machine.{ComesTo, Does, GivesUp, Moves}
use Rattle.plain_machine.specs.Ticks.{Ticks}
use Rattle.plain_machine.specs.State.{State, committed}
use Rattle.plain_machine.specs.declared.outcome.Answer.{Answer}
use Rattle.plain_machine.specs.declared.outcome.Outcome.{Outcome}
use Rattle.plain_machine.specs.declared.setting.Setting.{Setting}

module _ (setting : Setting) (state : State) (clock : ℕ) (outcome : Outcome) (changes : List Change) where
  abbrev kept : State
  kept = committed (Some clock) state

  ticks_before : (functions : List Function) (last : ℕ) → Ticks kept outcome changes functions last → Ticks state outcome changes functions last
  ticks_before functions last (inl idle) = inl (record {
    none = idle.none;
    idle = idle.idle;
    no_commit = idle.no_commit;
    silent = idle.silent;
    unchanged = idle.unchanged;
    same = idle.same;
    same_last = idle.same_last;
  })
  ticks_before functions last (inr turn) = inr (record { f = turn.f; next = turn.next; serves = turn.serves; last_is = turn.last_is })

  gives_up_before : (told : Answer → Type 0) (functions : List Function) (last : ℕ) → GivesUp kept told outcome changes functions last → GivesUp state told outcome changes functions last
  gives_up_before told functions last gives = record {
    tells = gives.tells;
    no_commit = gives.no_commit;
    silent = gives.silent;
    unchanged = gives.unchanged;
    same = gives.same;
    same_last = gives.same_last;
  }

  comes_before : (event : Event) (functions : List Function) (last : ℕ) → ComesTo setting kept event outcome changes functions last → ComesTo setting state event outcome changes functions last
  comes_before (Submit f request) functions last comes = record {
    submits = comes.submits;
    no_commit = comes.no_commit;
    silent = comes.silent;
    unchanged = comes.unchanged;
    same_last = comes.same_last;
  }
  comes_before Tick functions last comes = ticks_before functions last comes
  comes_before (Host command) functions last comes = record {
    said = comes.said;
    answers = comes.answers;
    told = comes.told;
    commits = comes.commits;
    silent = comes.silent;
    same_last = comes.same_last;
  }
  comes_before (Handle f) functions last comes = record { handles = comes.handles; finds = comes.finds; same_last = comes.same_last }
  comes_before (Prune f) functions last comes = gives_up_before _ functions last comes
  comes_before (PruneAt f v) functions last comes = gives_up_before _ functions last comes
  comes_before Evict functions last comes = gives_up_before _ functions last comes
  comes_before Restart functions last comes = absurd comes

  moves_before : (event : Event) (next : State) → Moves setting kept event changes outcome next → (other : State) × Moves setting state event changes outcome other
  moves_before event next moves = (
    committed outcome.after (record { now = moves.files; kept = state.kept; functions = moves.functions; last = moves.last; count = state.count + staged changes }),
    record {
      files = moves.files;
      functions = moves.functions;
      last = moves.last;
      comes = comes_before event moves.functions moves.last moves.comes;
      builds = moves.builds;
      leads = moves.leads;
      result = refl;
    },
  )

  does_kept : (event : Event) (next : State) → Does setting kept event changes outcome next → (other : State) × Does setting state event changes outcome other
  does_kept (Submit f request) next does = moves_before (Submit f request) next does
  does_kept Tick next does = moves_before Tick next does
  does_kept (Host command) next does = moves_before (Host command) next does
  does_kept (Handle f) next does = moves_before (Handle f) next does
  does_kept (Prune f) next does = moves_before (Prune f) next does
  does_kept (PruneAt f v) next does = moves_before (PruneAt f v) next does
  does_kept Evict next does = moves_before Evict next does
  does_kept Restart next does = (
    _,
    record {
      told = does.told;
      no_drops = does.no_drops;
      no_path = does.no_path;
      no_commit = does.no_commit;
      silent = does.silent;
      unchanged = does.unchanged;
      result = refl;
    },
  )

-- whether a commit came or not
pub does_before : (setting : Setting) (state : State) (clock : Option ℕ) (event : Event) (changes : List Change) (outcome : Outcome) (next : State) → Does setting (committed clock state) event changes outcome next
    → (other : State) × Does setting state event changes outcome other
does_before setting state None event changes outcome next does = (next, does)
does_before setting state (Some clock) event changes outcome next does = does_kept setting state clock outcome changes event next does
