-- What an event does stays the same where its outcome tells of a commit that came before it.
use Rattle.std.proofs.Common.{ℕ, List, Option, inl, inr}
use Rattle.nesc_base.specs.declared.numbers.FnNo.{FnNo}
use Rattle.nesc_base.specs.Files.{Files}
use Rattle.nesc_requests.specs.declared.event.Event.{Event}
use Rattle.nesc_requests.specs.declared.event.Event.TheVariants.{Evict, Handle, Host, Prune, PruneAt, Restart, Submit, Tick}
use Rattle.file_model.specs.Files.{Change}
use Rattle.plain_machine.specs.Functions.{Becomes, Function}
use Rattle.plain_machine.specs.Handlings.{Handles}
use Rattle.plain_machine.specs.Machine.{ComesTo, Does, GivesUp, Moves}
use Rattle.plain_machine.specs.Ticks.{Serves, Ticks}
use Rattle.plain_machine.specs.State.{State}
use Rattle.plain_machine.specs.declared.outcome.Answer.{Answer}
use Rattle.plain_machine.specs.declared.outcome.Outcome.{Outcome}
use Rattle.plain_machine.specs.declared.setting.Setting.{Setting}

becomes_so : (one other : Function → Function → Type 0) (f : ℕ) (old new : List Function) → ((before after : Function) → one before after → other before after) → Becomes one f old new → Becomes other f old new
becomes_so one other f old new so becomes = record { after = becomes.after; becomes = so _ becomes.after becomes.becomes; others = becomes.others }

module _ (setting : Setting) (state : State) (before : Option ℕ) (outcome : Outcome) (changes : List Change) where
  abbrev told : Outcome
  told = record outcome { before = before }

  serves_behind : (files : Files) (f : FnNo) (old new : Function) → Serves files f old outcome changes new → Serves files f old told changes new
  serves_behind files f old new serves = record { turn = serves.turn; is = serves.is; later = serves.later; turns = serves.turns; result = serves.result }

  handles_behind : (files : Files) (f : FnNo) (old new : Function) → Handles files f old outcome changes new → Handles files f old told changes new
  handles_behind files f old new handles = record { did = handles.did; handles = handles.handles; told = handles.told; no_commit = handles.no_commit }

  ticks_behind : (functions : List Function) (last : ℕ) → Ticks state outcome changes functions last → Ticks state told changes functions last
  ticks_behind functions last (inl idle) = inl (record {
    none = idle.none;
    idle = idle.idle;
    no_commit = idle.no_commit;
    silent = idle.silent;
    unchanged = idle.unchanged;
    same = idle.same;
    same_last = idle.same_last;
  })
  ticks_behind functions last (inr turn) = inr (record {
    f = turn.f;
    next = turn.next;
    serves = becomes_so _ _ turn.f.0 state.functions functions (serves_behind state.now turn.f) turn.serves;
    last_is = turn.last_is;
  })

  gives_up_behind : (tells : Answer → Type 0) (functions : List Function) (last : ℕ) → GivesUp state tells outcome changes functions last → GivesUp state tells told changes functions last
  gives_up_behind tells functions last gives = record {
    tells = gives.tells;
    no_commit = gives.no_commit;
    silent = gives.silent;
    unchanged = gives.unchanged;
    same = gives.same;
    same_last = gives.same_last;
  }

  comes_behind : (event : Event) (functions : List Function) (last : ℕ) → ComesTo setting state event outcome changes functions last → ComesTo setting state event told changes functions last
  comes_behind (Submit f request) functions last comes = record {
    submits = comes.submits;
    no_commit = comes.no_commit;
    silent = comes.silent;
    unchanged = comes.unchanged;
    same_last = comes.same_last;
  }
  comes_behind Tick functions last comes = ticks_behind functions last comes
  comes_behind (Host command) functions last comes = record {
    said = comes.said;
    answers = comes.answers;
    told = comes.told;
    commits = comes.commits;
    silent = comes.silent;
    same_last = comes.same_last;
  }
  comes_behind (Handle f) functions last comes = record {
    handles = becomes_so _ _ f.0 state.functions functions (handles_behind state.now f) comes.handles;
    finds = comes.finds;
    same_last = comes.same_last;
  }
  comes_behind (Prune f) functions last comes = gives_up_behind _ functions last comes
  comes_behind (PruneAt f v) functions last comes = gives_up_behind _ functions last comes
  comes_behind Evict functions last comes = gives_up_behind _ functions last comes
  comes_behind Restart functions last comes = absurd comes

  moves_behind : (event : Event) (next : State) → Moves setting state event changes outcome next → Moves setting state event changes told next
  moves_behind event next moves = record {
    files = moves.files;
    functions = moves.functions;
    last = moves.last;
    comes = comes_behind event moves.functions moves.last moves.comes;
    builds = moves.builds;
    leads = moves.leads;
    result = moves.result;
  }

  pub does_behind : (event : Event) (next : State) → Does setting state event changes outcome next → Does setting state event changes told next
  does_behind (Submit f request) next does = moves_behind (Submit f request) next does
  does_behind Tick next does = moves_behind Tick next does
  does_behind (Host command) next does = moves_behind (Host command) next does
  does_behind (Handle f) next does = moves_behind (Handle f) next does
  does_behind (Prune f) next does = moves_behind (Prune f) next does
  does_behind (PruneAt f v) next does = moves_behind (PruneAt f v) next does
  does_behind Evict next does = moves_behind Evict next does
  does_behind Restart next does = record {
    told = does.told;
    no_drops = does.no_drops;
    no_path = does.no_path;
    no_commit = does.no_commit;
    silent = does.silent;
    unchanged = does.unchanged;
    result = does.result;
  }
