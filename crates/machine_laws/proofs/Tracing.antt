-- Traces of no words, of one word, and of some words and then more.
use Rattle.std.proofs.Common.{◌≡◌, List, [], ◌∷◌, ◌++◌, map, Some, None, refl, sym, ap, ◌∙◌, subst}
use Rattle.std.proofs.lemmas.Grind.{flat_map-append}
use Rattle.std.proofs.lemmas.List.{map-append}
use Rattle.std.specs.Option.{option_to_list}
use Rattle.nesc_base.specs.Places.{Places}
use Rattle.nesc_requests.specs.Script.{Script}
use Rattle.nesc_requests.specs.declared.word.Word.{Word}
use Rattle.plain_machine.specs.Draws.{Draws, WordTaken, event_of, left_after, left_behind, steps_made, words_in}
use Rattle.plain_machine.specs.Groups.{Group, end_group, group_of, told}
use Rattle.plain_machine.specs.Machine.{IsStep, Run, StepTaken}
use Rattle.plain_machine.specs.Misses.{HasNoTrees, MeetsMissLaw}
use Rattle.plain_machine.specs.State.{State}
use Rattle.plain_machine.specs.Traces.{IsTrace, LegalRun}
use Rattle.plain_machine.specs.declared.setting.Setting.{Setting}

draws-append : (script : Script) (taken more : List WordTaken) (left rest : Script) → Draws script taken left → Draws left more rest
    → Draws script (taken ++ more) rest
draws-append script [] more left rest none draws = subst (λ (from : Script). Draws from more rest) none draws
draws-append script (one ∷ taken) more left rest first draws =
    (first.0, draws-append (left_behind script one.step) taken more left rest first.1 draws)

words_in-append : (taken more : List WordTaken) → words_in (taken ++ more) ≡ words_in taken ++ words_in more
words_in-append taken more = map-append (λ (taken : WordTaken). taken.word) taken more

steps_made-append : (taken more : List WordTaken) → steps_made (taken ++ more) ≡ steps_made taken ++ steps_made more
steps_made-append taken more = flat_map-append (λ (taken : WordTaken). option_to_list taken.step) taken more

module _ (setting : Setting) (places : Places) where
  run-append : (old : State) (steps more : List StepTaken) (mid new : State) → Run setting old steps mid → Run setting mid more new
      → Run setting old (steps ++ more) new
  run-append old [] more mid new none run = subst (λ (from : State). Run setting from more new) none run
  run-append old (step ∷ steps) more mid new first run = (first.0, first.1, run-append step.new steps more mid new first.2 run)

  law-append : (steps more : List StepTaken) → MeetsMissLaw setting places steps → MeetsMissLaw setting places more
      → MeetsMissLaw setting places (steps ++ more)
  law-append [] more first law = law
  law-append (step ∷ steps) more first law = (first.0, law-append steps more first.1 law)

  legal-append : (old : State) (taken more : List WordTaken) (mid new : State) → LegalRun setting places old (steps_made taken) mid
      → LegalRun setting places mid (steps_made more) new → LegalRun setting places old (steps_made (taken ++ more)) new
  legal-append old taken more mid new first second =
      subst (λ (steps : List StepTaken). LegalRun setting places old steps new) (sym (steps_made-append taken more)) (record {
        run = run-append old (steps_made taken) (steps_made more) mid new first.run second.run;
        law = law-append (steps_made taken) (steps_made more) first.law second.law;
      })

  pub trace-none : (old : State) (script : Script) → IsTrace setting places old script [] [] old script
  trace-none old script = record {
    taken = [];
    words_taken = refl;
    draws = refl;
    run = record { run = refl; law = tt };
    groups_told = refl;
  }

  -- a word that drew an event, which made this step
  pub trace-one : (script : Script) (word : Word) (step : StepTaken) → event_of script word ≡ Some step.event → IsStep setting step
      → HasNoTrees step.outcome
      → IsTrace setting places step.old script (word ∷ []) (group_of word step.outcome ∷ []) step.new (left_after script step.event step.outcome.answer)
  trace-one script word step draws is law = record {
    taken = (record { word = word; step = Some step }) ∷ [];
    words_taken = refl;
    draws = (draws, refl);
    run = record { run = (refl, is, refl); law = (law, tt) };
    groups_told = refl;
  }

  -- a word for which nothing was left
  pub trace-end : (old : State) (script : Script) (word : Word) → event_of script word ≡ None
      → IsTrace setting places old script (word ∷ []) (end_group word ∷ []) old script
  trace-end old script word none = record {
    taken = (record { word = word; step = None }) ∷ [];
    words_taken = refl;
    draws = (none, refl);
    run = record { run = refl; law = tt };
    groups_told = refl;
  }

  pub trace-append : (old : State) (script : Script) (words more : List Word) (groups others : List Group) (mid new : State) (left rest : Script)
      → IsTrace setting places old script words groups mid left → IsTrace setting places mid left more others new rest
      → IsTrace setting places old script (words ++ more) (groups ++ others) new rest
  trace-append old script words more groups others mid new left rest first second = record {
    taken = first.taken ++ second.taken;
    words_taken =
        words_in-append first.taken second.taken
        ∙ ap (λ (some : List Word). some ++ words_in second.taken) first.words_taken
        ∙ ap (◌++◌ words) second.words_taken;
    draws = draws-append script first.taken second.taken left rest first.draws second.draws;
    run = legal-append old first.taken second.taken mid new first.run second.run;
    groups_told =
        ap (λ (some : List Group). some ++ others) first.groups_told
        ∙ ap (◌++◌ (map told first.taken)) second.groups_told
        ∙ sym (map-append told first.taken second.taken);
  }
