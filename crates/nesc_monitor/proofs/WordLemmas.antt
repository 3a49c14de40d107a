-- One word, and what is told of it.
use Rattle.std.proofs.Common.{◌≡◌, ◌⊎◌, ℕ, true, List, [], ◌∷◌, Option, Some, None, Err, inl, inr, refl, sym, ◌∙◌, append-nil, subst, arith}
use Rattle.nesc_base.specs.declared.block.Block.{Block}
use Rattle.nesc_base.specs.Disk.{Known}
use Rattle.nesc_base.specs.Fault.{HasCause}
use Rattle.nesc_base.specs.Sink.{Grows}
use Rattle.nesc_requests.specs.Script.{Script}
use Rattle.nesc_requests.specs.declared.event.Event.{Event}
use Rattle.nesc_requests.specs.declared.event.Event.TheVariants.{Restart}
use Rattle.nesc_requests.specs.declared.word.Word.{Word}
use Rattle.file_model.specs.Files.{Change}
use Rattle.plain_machine.specs.Draws.{event_of, left_after, without_drawn}
use Rattle.plain_machine.specs.Groups.{Group, end_group, group_of}
use Rattle.plain_machine.specs.Lines.{group_text, groups_text}
use Rattle.plain_machine.specs.Machine.{Step}
use Rattle.plain_machine.specs.Placing.{Placed}
use Rattle.plain_machine.specs.State.{State}
use Rattle.plain_machine.specs.Traces.{IsTrace}
use Rattle.plain_machine.specs.declared.outcome.Outcome.{Outcome}
use Rattle.plain_machine.specs.declared.setting.Setting.{Setting}
use Rattle.image_layout.specs.declared.fault.ImageFault.{ImageFault}
use Rattle.machine_laws.proofs.Tracing.{trace-end, trace-one}
use Rattle.nesc_session.specs.Resting.{IsIn}
use Rattle.nesc_session.specs.Stepping.{AsksOnDisk, CommitsFor, LeavesBy, StepsTo, TellsMedia}
use Rattle.nesc_session.specs.declared.fault.StepFault.{StepFault}
use Rattle.nesc_session.specs.declared.fault.StepFault.TheVariants as step
use Rattle.nesc_session.specs.declared.session.Session.{Session}
use Rattle.text_kit.specs.Known.{Keeps, followed_by}
use Rattle.nesc_monitor.specs.Steps.{ChangesNothing, ComesOfWord, IsInTime, Out, TellsWordBy, with_back}
use Rattle.nesc_monitor.specs.declared.fault.RunFault.TheVariants as run
use Rattle.nesc_monitor.proofs.DrawLemmas.{left_behind}
use Rattle.nesc_monitor.proofs.GroupLemmas.{media_rose, quiet_end, quiet_step}
use Rattle.nesc_monitor.proofs.TellLemmas.{handed_on, keeps_grows}

one_text : (group : Group) → groups_text (group ∷ []) ≡ group_text group
one_text group = append-nil (group_text group)

-- what was told before the step was handed on, or the step changes nothing
pub handed_or_nothing : {A : Type 0} (old mid new : Option (List ℕ)) (pending : List ℕ) → A ⊎ (pending ≡ []) → Keeps old (followed_by mid pending) → Grows mid new → A ⊎ Grows old new
handed_or_nothing old mid new pending (inl nothing) kept grew = inl nothing
handed_or_nothing old mid new pending (inr empty) kept grew = inr (keeps_grows old mid new (handed_on old mid pending empty kept) grew)

-- so it was in time: its lines are quiet, or all of it was handed on
pub in_time : {setting : Setting} {old : State} {changes : List Change} {new : State} (session : Session) (word : Word) (event : Event) (outcome : Outcome) (out told : Out)
    → Step setting old event changes outcome new → ((CommitsFor session event → ⊥) → (outcome.before ≡ None) × (outcome.after ≡ None))
    → ChangesNothing session event ⊎ Grows out.shown told.handed → IsInTime out (group_of word outcome) told
in_time session word event outcome out told step quiet (inl nothing) =
    let none = quiet nothing.0 in inl (quiet_step word event step nothing.1 none.0 none.1)
in_time session word event outcome out told step quiet (inr handed) = inr handed

module _ (takes : Option (List ℕ) → Option (List ℕ) → List ℕ → Type 0) where
  told_by : (out told : Out) (group : Group) → takes out.shown told.shown (group_text group) → takes out.shown told.shown (groups_text (group ∷ []))
  told_by out told group tells = subst (takes out.shown told.shown) (sym (one_text group)) tells

  -- nothing was left to give
  pub tells_end : (setting : Setting) (old : State) (placed : Placed) (kept : List Block) (script : Script) (word : Word) (session : Session) (disk : Known) (rest : Script) (out told : Out)
      → IsIn session disk kept old placed → event_of script word ≡ None → rest ≡ script → takes out.shown told.shown (group_text (end_group word))
      → TellsWordBy takes setting old script word session disk disk rest out told
  tells_end setting old placed kept script word session disk rest out told is none same tells = record {
    group = end_group word;
    next = old;
    moved = placed;
    kept = kept;
    trace = λ places. let Traces : Script → Type 0 = λ left. IsTrace setting places old script (word ∷ []) (end_group word ∷ []) old left in
        subst Traces (sym same) (trace-end setting places old script word none);
    is_in = is;
    media = inl (omega arith);
    in_time = inl (quiet_end word);
    tells = told_by out told (end_group word) tells;
  }

  -- a step was taken
  pub tells_step : (session : Session) (old : State) (placed : Placed) (script : Script) (word : Word) (event : Event) (outcome : Outcome) (new : Session) (before disk : Known) (rest : Script) (out told : Out)
      → StepsTo session old placed event outcome new disk → event_of script word ≡ Some event → rest ≡ with_back (without_drawn script event) word outcome.answer
      → HasCause before.faults disk.faults (TellsMedia outcome) → ((CommitsFor session event → ⊥) → (outcome.before ≡ None) × (outcome.after ≡ None))
      → ChangesNothing session event ⊎ Grows out.shown told.handed → takes out.shown told.shown (group_text (group_of word outcome))
      → TellsWordBy takes session.setting old script word new before disk rest out told
  tells_step session old placed script word event outcome new before disk rest out told steps draws left media quiet handed tells =
      let same : rest ≡ left_after script event outcome.answer = left ∙ left_behind script word event draws steps.step in record {
        group = group_of word outcome;
        next = steps.next;
        moved = steps.moved;
        kept = steps.later;
        trace = λ places. let Traces : Script → Type 0 = λ left. IsTrace session.setting places old script (word ∷ []) (group_of word outcome ∷ []) steps.next left in
            subst Traces (sym same)
            (trace-one session.setting places script word (record { old = old; event = event; changes = steps.changes; outcome = outcome; new = steps.next }) draws steps.step steps.no_trees);
        is_in = steps.is_in;
        media = media_rose word outcome before.faults disk.faults media;
        in_time = in_time session word event outcome out told steps.step quiet handed;
        tells = told_by out told (group_of word outcome) tells;
      }

-- The disk failed in the step

-- all that was told before was handed on
pub handed_where_asked : (session : Session) (event : Event) (old mid : Option (List ℕ)) (pending : List ℕ) → ChangesNothing session event ⊎ (pending ≡ []) → CommitsFor session event ⊎ (event ≡ Restart)
    → Keeps old (followed_by mid pending) → Keeps old mid
handed_where_asked session event old mid pending (inr empty) asked kept = handed_on old mid pending empty kept
handed_where_asked session event old mid pending (inl nothing) (inl commits) kept = absurd (nothing.0 commits)
handed_where_asked session event old mid pending (inl nothing) (inr restarts) kept = absurd (nothing.1 restarts)

pub comes_of_fault : (session : Session) (old : State) (placed : Placed) (kept : List Block) (script : Script) (word : Word) (event : Event) (fault : StepFault) (new : Session) (before disk : Known) (rest : Script) (out told : Out)
    → before.tells ≡ true → IsIn session before kept old placed → event_of script word ≡ Some event → AsksOnDisk session before event → Keeps out.shown told.handed
    → HasCause before.faults disk.faults (fault ≡ step.Disk (record {})) → LeavesBy (CommitsFor session event) session before disk → ((image : ImageFault) → ¬ (fault ≡ step.Image image))
    → ComesOfWord session.setting old placed kept script word new before disk rest out told (Err (run.Step fault))
comes_of_fault session old placed kept script word event (step.Disk fault) new before disk rest out told tells is draws asks handed cause leaves opens = record {
  event = event;
  draws = draws;
  asks = asks tells kept old placed is;
  handed = handed;
  rose = cause.rose refl;
  stops = λ image could. elim ((leaves tells kept old placed is).now tells image could) [
    | inl as_kept ↦ inl as_kept
    | inr as_now ↦ inr as_now.1
  ];
}
comes_of_fault session old placed kept script word event (step.Image image) new before disk rest out told tells is draws asks handed cause leaves opens = absurd (opens image refl)
