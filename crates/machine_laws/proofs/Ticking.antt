-- What a tick comes to.
use Rattle.std.proofs.Common.{◌≡◌, ℕ, not, true, inl, inr, List, [], ◌∷◌, Option, None, Some, refl, sym, ap, ◌∙◌}
use Rattle.std.proofs.lemmas.Bool.{and_parts, false≢true}
use Rattle.std.specs.Option.{is_none}
use Rattle.nesc_base.specs.Files.{file_at}
use Rattle.nesc_base.specs.declared.numbers.FnNo.{FnNo}
use Rattle.nesc_requests.specs.Script.{numbered, with_numbered}
use Rattle.nesc_requests.specs.declared.event.Event.TheVariants.{Tick}
use Rattle.nesc_requests.specs.declared.request.Queued.{Queued}
use Rattle.plain_machine.specs.Functions.{Attached, Function, function_at, is_empty, is_ready, next_runnable}
use Rattle.plain_machine.specs.State.{State}
use Rattle.plain_machine.specs.Ticks.{Ticks, Turn}
use Rattle.plain_machine.specs.declared.outcome.Answer.TheVariants.{Idle}
use Rattle.plain_machine.specs.declared.outcome.Outcome.{Outcome}
use Rattle.plain_machine.specs.declared.setting.Setting.{Setting}
use Rattle.file_model.specs.Files.{Change}
use Rattle.machine_laws.proofs.Outcomes.{CanCome, Coming, Given, coming_of, given_in, nothing_given}
use Rattle.machine_laws.proofs.Runnable.{attached_from_function, next_is_runnable}
use Rattle.machine_laws.proofs.Turning.{Turned, turn_of, turn_of-Some, turn_at, turn_with, turned, turned_one, turned_turns}

abbrev pub idle : State → Coming
idle old = record { answer = Idle; after = None; reply = None; changes = []; functions = old.functions; last = old.last }

abbrev pub turned_to : State → FnNo → Turned → Coming
turned_to old f to = record {
  answer = to.answer;
  after = to.after;
  reply = to.reply;
  changes = to.changes;
  functions = with_numbered old.functions f.0 (record (function_at old.functions f.0) { attached = Some to.later });
  last = f.0;
}

abbrev pub ticked_by : State → Given → FnNo → Option Turn → Coming
ticked_by old given f None = idle old
ticked_by old given f (Some turn) = turned_to old f (turned (file_at old.now turn.attached.file) turn given)

abbrev pub ticked_for : State → Given → Option ℕ → Coming
ticked_for old given None = idle old
ticked_for old given (Some f) = ticked_by old given (record { 0 = f }) (turn_of (record { 0 = f }) (function_at old.functions f))

-- what a tick comes to with what is given
abbrev pub ticked : State → Given → Coming
ticked old given = ticked_for old given (next_runnable old.functions old.last)

-- It comes to nothing else

pub ticked_one : (old : State) (outcome : Outcome) (changes : List Change) (functions : List Function) (last : ℕ)
    → Ticks old outcome changes functions last
    → coming_of outcome changes functions last ≡ ticked old (given_in (coming_of outcome changes functions last))
ticked_one old outcome changes functions last (inl is) =
    (λ i. record {
      answer = is.idle i;
      after = is.no_commit i;
      reply = is.silent i;
      changes = is.unchanged i;
      functions = is.same i;
      last = is.same_last i;
    })
    ∙ sym (ap (ticked_for old (given_in (coming_of outcome changes functions last))) is.none)
ticked_one old outcome changes functions last (inr takes) =
    let coming = coming_of outcome changes functions last in
    let given = given_in coming in
    let serves = takes.serves.becomes in
    let file = file_at old.now serves.turn.attached.file in
    let turns = turned_one file serves.turn outcome.answer outcome.after outcome.reply changes serves.later serves.turns in
    let left = takes.serves.others ∙ ap (with_numbered old.functions takes.f.0) serves.result in
    let turn = turn_of-Some takes.f (function_at old.functions takes.f.0) serves.turn serves.is in
    (λ i. record coming { functions = left i; last = takes.last_is i })
    ∙ ap (turned_to old takes.f) turns
    ∙ sym (ap (ticked_for old given) takes.next ∙ ap (ticked_by old given takes.f) turn)

-- And it does come to that

module _ (setting : Setting) (old : State) (before : Option ℕ) where
  module _ (f : FnNo) (next : next_runnable old.functions old.last ≡ Some f.0) where
    taken_with : (attached : Attached) (queue : List Queued) → (function_at old.functions f.0).attached ≡ Some attached
        → attached.queue ≡ queue → not (is_empty queue) ≡ true → CanCome setting old Tick before (ticked_by old nothing_given f (turn_with f attached queue))
    taken_with attached [] on empty some = absurd (false≢true some)
    taken_with attached (head ∷ rest) on queue some =
        let turn : Turn = record { f = f; attached = attached; head = head; rest = rest } in
        let turns = turned_turns old.now turn in record {
          comes = inr (record {
            f = f;
            next = next;
            serves = record {
              after = _;
              becomes = record { turn = turn; is = record { takes = refl; on = on; queue = queue }; later = _; turns = turns.turns; result = refl };
              others = refl;
            };
            last_is = refl;
          });
          walks = turns.walks;
          no_leaf = turns.no_leaf;
          leads = turns.leads;
        }

    taken_at : (has : Option Attached) → (function_at old.functions f.0).attached ≡ has → is_ready has ≡ true
        → CanCome setting old Tick before (ticked_by old nothing_given f (turn_at f has))
    taken_at None none ready = absurd (false≢true ready)
    taken_at (Some attached) on ready =
        let parts = and_parts (not (is_empty attached.queue)) (is_none attached.waiting) ready in
        taken_with attached attached.queue on refl parts.0

  ticked_by_next : (next : Option ℕ) → next_runnable old.functions old.last ≡ next → CanCome setting old Tick before (ticked_for old nothing_given next)
  ticked_by_next None none = record {
    comes = inl (record { none = none; idle = refl; no_commit = refl; silent = refl; unchanged = refl; same = refl; same_last = refl });
    walks = refl;
    no_leaf = refl;
    leads = (old.now, refl);
  }
  ticked_by_next (Some f) next =
      let runnable = next_is_runnable old.functions old.last f next in
      taken_at (record { 0 = f }) next (function_at old.functions f).attached refl
      (sym (ap is_ready (attached_from_function (numbered old.functions f))) ∙ runnable)

  pub ticked_comes : CanCome setting old Tick before (ticked old nothing_given)
  ticked_comes = ticked_by_next (next_runnable old.functions old.last) refl
