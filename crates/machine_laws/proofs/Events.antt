-- What an event comes to.
use Rattle.std.proofs.Common.{◌≡◌, ℕ, List, [], Option, None, map, refl, sym, ap, ◌∙◌, subst}
use Rattle.std.proofs.lemmas.Option.{none-some}
use Rattle.nesc_base.specs.Files.{Files, IsFileSet, file_at}
use Rattle.nesc_requests.specs.Script.{with_numbered}
use Rattle.nesc_requests.specs.declared.event.Event.{Event}
use Rattle.nesc_requests.specs.declared.event.Event.TheVariants.{Evict, Handle, Host, Prune, PruneAt, Restart, Submit, Tick}
use Rattle.file_model.specs.Files.{Change, LeadsTo, free}
use Rattle.plain_machine.specs.Functions.{AreSound, Function, IsSound, file_number, function_at}
use Rattle.plain_machine.specs.Given.{is_failed_get, leaf_of}
use Rattle.plain_machine.specs.Handlings.{FindsSpace}
use Rattle.plain_machine.specs.Machine.{ComesTo, restarted}
use Rattle.plain_machine.specs.State.{State}
use Rattle.plain_machine.specs.declared.outcome.Answer.{Answer}
use Rattle.plain_machine.specs.declared.outcome.Answer.TheVariants as happened
use Rattle.plain_machine.specs.declared.outcome.Outcome.{Outcome}
use Rattle.plain_machine.specs.declared.setting.Setting.{Setting}
use Rattle.machine_laws.proofs.Entries.{all_at}
use Rattle.machine_laws.proofs.Handling.{handling, handling_handles, handling_one}
use Rattle.machine_laws.proofs.HostAnswering.{clock_one, hosted, hosted_at_one, hosted_comes}
use Rattle.machine_laws.proofs.Outcomes.{CanCome, Coming, Given, coming_of, given_in, nothing_given}
use Rattle.machine_laws.proofs.Submitting.{submitted, submitted_looks_for_none, submitted_one, submitted_submits}
use Rattle.machine_laws.proofs.Ticking.{ticked, ticked_comes, ticked_one}

-- nothing is done but what is answered
abbrev pub gave_up : State → Answer → Coming
gave_up old answer = record { answer = answer; after = None; reply = None; changes = []; functions = old.functions; last = old.last }

-- what an event comes to with what is given
abbrev pub come : Setting → State → Event → Given → Coming
come setting old (Submit f request) given =
    let to = submitted setting.machine.queue (function_at old.functions f.0) request in record {
      answer = to.0;
      after = None;
      reply = None;
      changes = [];
      functions = with_numbered old.functions f.0 to.1;
      last = old.last;
    }
come setting old Tick given = ticked old given
come setting old (Host command) given = hosted setting.geometry.blocks old given command
come setting old (Handle f) given =
    let function = function_at old.functions f.0 in
    let to = handling (file_at old.now (file_number function)) (free setting.geometry.blocks old.now) f function in record {
      answer = happened.Handled f to.did;
      after = None;
      reply = to.reply;
      changes = to.changes;
      functions = with_numbered old.functions f.0 to.after;
      last = old.last;
    }
come setting old (Prune f) given = gave_up old (happened.Pruned f)
come setting old (PruneAt f v) given = gave_up old (happened.PrunedAt f given.leaf)
come setting old Evict given = gave_up old happened.Evicted
come setting old Restart given =
    record { answer = happened.Restarted; after = None; reply = None; changes = []; functions = map restarted old.functions; last = 0 }

-- It comes to nothing else

module _ (setting : Setting) (old : State) (outcome : Outcome) (changes : List Change) (functions : List Function) (last : ℕ) where
  pub come_one : (event : Event) (new : Files) → IsFileSet old.now → ComesTo setting old event outcome changes functions last
      → LeadsTo old.now changes new
      → coming_of outcome changes functions last ≡ come setting old event (given_in (coming_of outcome changes functions last))
  come_one (Submit f request) new set comes leads =
      let submits = comes.submits in
      let same = submitted_one setting.machine.queue (function_at old.functions f.0) request outcome.answer submits.after submits.becomes in
      let left = submits.others ∙ (λ i. with_numbered old.functions f.0 (same i).1) in
      λ i. record {
        answer = (same i).0;
        after = comes.no_commit i;
        reply = comes.silent i;
        changes = comes.unchanged i;
        functions = left i;
        last = comes.same_last i;
      }
  come_one Tick new set comes leads = ticked_one old outcome changes functions last comes
  come_one (Host command) new set comes leads =
      let blocks = setting.geometry.blocks in
      let given = given_in (coming_of outcome changes functions last) in
      (λ i. record {
        answer = comes.told i;
        after = clock_one outcome.after _ comes.commits i;
        reply = comes.silent i;
        changes = changes;
        functions = functions;
        last = comes.same_last i;
      })
      ∙ hosted_at_one blocks old command given.failed_get _ comes.said changes functions new set (ap is_failed_get comes.told) comes.answers leads
  come_one (Handle f) new set comes leads =
      let handles = comes.handles.becomes in
      let function = function_at old.functions f.0 in
      let room = free setting.geometry.blocks old.now in
      let finds = subst (FindsSpace room old.now function) handles.told comes.finds in
      let same = handling_one (file_at old.now (file_number function)) room f function handles.did outcome.reply changes comes.handles.after handles.handles finds in
      let answer = handles.told ∙ (λ i. happened.Handled f (same i).did) in
      let left = comes.handles.others ∙ (λ i. with_numbered old.functions f.0 (same i).after) in
      λ i. record {
        answer = answer i;
        after = handles.no_commit i;
        reply = (same i).reply;
        changes = (same i).changes;
        functions = left i;
        last = comes.same_last i;
      }
  come_one (Prune f) new set comes leads = λ i. record {
    answer = comes.tells i;
    after = comes.no_commit i;
    reply = comes.silent i;
    changes = comes.unchanged i;
    functions = comes.same i;
    last = comes.same_last i;
  }
  come_one (PruneAt f v) new set comes leads =
      (λ i. record {
        answer = comes.tells.1 i;
        after = comes.no_commit i;
        reply = comes.silent i;
        changes = comes.unchanged i;
        functions = comes.same i;
        last = comes.same_last i;
      })
      ∙ ap (λ leaf. gave_up old (happened.PrunedAt f leaf)) (sym (ap leaf_of comes.tells.1))
  come_one Evict new set comes leads = λ i. record {
    answer = comes.tells i;
    after = comes.no_commit i;
    reply = comes.silent i;
    changes = comes.unchanged i;
    functions = comes.same i;
    last = comes.same_last i;
  }
  come_one Restart new set comes leads = absurd comes

-- And it does come to that

-- any event but a restart, which comes to nothing of its own
abbrev pub IsNoRestart : Event → Type 0
IsNoRestart Restart = ⊥
IsNoRestart event = Unit {0}

module _ (setting : Setting) (old : State) (before : Option ℕ) where
  pub come_comes : (event : Event) → IsNoRestart event → AreSound old.functions → CanCome setting old event before (come setting old event nothing_given)
  come_comes (Submit f request) goes sound =
      let most = setting.machine.queue in
      let function = function_at old.functions f.0 in
      let none = submitted_looks_for_none most function request in record {
        comes = record {
          submits = record { after = _; becomes = submitted_submits most function request; others = refl };
          no_commit = refl;
          silent = refl;
          unchanged = refl;
          same_last = refl;
        };
        walks = none.0;
        no_leaf = none.1;
        leads = (old.now, refl);
      }
  come_comes Tick goes sound = ticked_comes setting old before
  come_comes (Host command) goes sound = hosted_comes setting old before command
  come_comes (Handle f) goes sound =
      let function = function_at old.functions f.0 in
      let is_sound = all_at IsSound old.functions f.0 (λ attached on. absurd (none-some attached on)) sound in
      let can = handling_handles old.now (free setting.geometry.blocks old.now) f function is_sound in record {
        comes = record {
          handles = record { after = _; becomes = record { did = _; handles = can.handles; told = refl; no_commit = refl }; others = refl };
          finds = can.space;
          same_last = refl;
        };
        walks = refl;
        no_leaf = refl;
        leads = can.leads;
      }
  come_comes (Prune f) goes sound = record {
    comes = record { tells = refl; no_commit = refl; silent = refl; unchanged = refl; same = refl; same_last = refl };
    walks = refl;
    no_leaf = refl;
    leads = (old.now, refl);
  }
  come_comes (PruneAt f v) goes sound = record {
    comes = record { tells = (None, refl); no_commit = refl; silent = refl; unchanged = refl; same = refl; same_last = refl };
    walks = refl;
    no_leaf = refl;
    leads = (old.now, refl);
  }
  come_comes Evict goes sound = record {
    comes = record { tells = refl; no_commit = refl; silent = refl; unchanged = refl; same = refl; same_last = refl };
    walks = refl;
    no_leaf = refl;
    leads = (old.now, refl);
  }
  come_comes Restart goes sound = absurd goes
