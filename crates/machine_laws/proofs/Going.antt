-- The machine is never stuck.
use Rattle.std.proofs.Common.{◌≡◌, [], ◌∷◌, Option, None, Some, refl}
use Rattle.nesc_base.specs.Places.{Places}
use Rattle.nesc_requests.specs.Script.{Script}
use Rattle.nesc_requests.specs.declared.event.Event.{Event}
use Rattle.nesc_requests.specs.declared.word.Word.{Word}
use Rattle.plain_machine.specs.Draws.{event_of, left_after}
use Rattle.plain_machine.specs.Functions.{AreSound}
use Rattle.plain_machine.specs.Groups.{Group, end_group, group_of}
use Rattle.plain_machine.specs.Machine.{StepTaken}
use Rattle.plain_machine.specs.State.{State}
use Rattle.plain_machine.specs.Traces.{IsTrace}
use Rattle.plain_machine.specs.declared.setting.Setting.{Setting}
use Rattle.machine_laws.specs.Laws.{IsNeverStuck}
use Rattle.machine_laws.proofs.Existing.{has_step}
use Rattle.machine_laws.proofs.Sounding.{functions_stay}
use Rattle.machine_laws.proofs.Tracing.{trace-append, trace-end, trace-none, trace-one}

module _ (setting : Setting) (places : Places) where
  -- a word has a trace, and leaves the functions as they may be
  pub record GoesOn (old : State) (script : Script) (word : Word) : Type 0 where
    pub group : Group
    pub new : State
    pub rest : Script
    pub trace : IsTrace setting places old script (word ∷ []) (group ∷ []) new rest
    pub sound : AreSound new.functions

  -- whatever it draws
  goes_on : (old : State) (script : Script) (word : Word) → AreSound old.functions → (drawn : Option Event) → event_of script word ≡ drawn
      → GoesOn old script word
  goes_on old script word sound None none = record {
    group = end_group word;
    new = old;
    rest = script;
    trace = trace-end setting places old script word none;
    sound = sound;
  }
  goes_on old script word sound (Some event) draws =
      let has = has_step event setting old sound in
      let step : StepTaken = record { old = old; event = event; changes = has.0; outcome = has.1; new = has.2 } in record {
        group = group_of word has.1;
        new = has.2;
        rest = left_after script event has.1.answer;
        trace = trace-one setting places script word step draws has.3 has.4;
        sound = (functions_stay event setting old has.0 has.1 has.2 has.3).1 sound;
      }

  pub never_stuck : (old : State) → AreSound old.functions → IsNeverStuck setting places old
  never_stuck old sound script [] = ([], old, script, trace-none setting places old script)
  never_stuck old sound script (word ∷ words) =
      let first = goes_on old script word sound (event_of script word) refl in
      let more = never_stuck first.new first.sound first.rest words in
      let trace = trace-append setting places old script (word ∷ []) words (first.group ∷ []) more.0 first.new more.1 first.rest more.2 first.trace more.3 in
      (first.group ∷ more.0, more.1, more.2, trace)
