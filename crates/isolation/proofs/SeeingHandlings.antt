-- A handling, as one function and one file see it.
use Rattle.std.proofs.Common.{◌≡◌, ℕ, ◌==◌, true, false, List, [], ◌∷◌, filter, Option, Some, None, refl, sym, ap, ◌∙◌, subst, ⊎_elim}
use Rattle.std.specs.FinMap.{get}
use Rattle.std.specs.Option.{option_and_then, option_map_or}
use Rattle.std.proofs.lemmas.Bool.{eqb-false, eqb-true, false≢true}
use Rattle.std.proofs.lemmas.Option.{same_Some}
use Rattle.nesc_base.specs.Files.{File, Files, file_at}
use Rattle.nesc_base.specs.declared.numbers.FnNo.{FnNo}
use Rattle.nesc_requests.specs.declared.request.Miss.{Miss}
use Rattle.nesc_requests.specs.declared.request.Reply.{Reply}
use Rattle.nesc_requests.specs.Script.{with_numbered}
use Rattle.file_model.specs.Files.{Change, LeadsTo}
use Rattle.plain_machine.specs.Functions.{Attached, Becomes, Function, attached_of, file_number, function_at, has_file}
use Rattle.plain_machine.specs.Handlings.{Handles, HandlesSo, ready}
use Rattle.plain_machine.specs.State.{State}
use Rattle.plain_machine.specs.Ticks.{ended}
use Rattle.plain_machine.specs.declared.outcome.Handled.{Handled}
use Rattle.plain_machine.specs.declared.outcome.Handled.TheVariants as did
use Rattle.plain_machine.specs.declared.outcome.Outcome.{Outcome}
use Rattle.isolation.specs.History.{OwnEvent, handled, has, is_of, own_by, own_of_handled, replies_of}
use Rattle.isolation.specs.Solo.{desk_of, file_after_all, function_at_desk, solo_in, told_by}
use Rattle.isolation.proofs.AtDesk.{attached_at, attached_with, attached_with_other, attached_with_same, desk_of_file, desk_with, no_desk}
use Rattle.isolation.proofs.OneFile.{AreOf, all_of_same, are_of_holding, changes_make, none_of_other}
use Rattle.isolation.proofs.Seeing.{Sees, desk_in, run_one, sees_as, solo_with}
use Rattle.isolation.proofs.SeeingTurns.{IsDoneFor, IsReplyOf, sees_done}

-- the number of the file that a function has
number_of : (n : ℕ) (has : Option Attached) → has_file n has ≡ true → option_map_or (λ (attached : Attached). attached.file) has 0 ≡ n
number_of n None is = absurd (false≢true is)
number_of n (Some attached) is = eqb-true attached.file n is

-- What is so of a handling, whatever it comes to

record IsOfHandling (g : FnNo) (old : Function) (reply : Option Reply) (changes : List Change) (new : Function) : Type 0 where
  replies : IsReplyOf g reply
  changed : AreOf (file_number old) changes
  others : (n : ℕ) → has_file n old.attached ≡ false → filter (is_of n) changes ≡ []
  same_file : (n : ℕ) → has_file n new.attached ≡ has_file n old.attached

-- The function that is alone with what it has at its desk is handled in the same way.
record IsHandledAlone (file : File) (g : FnNo) (desk : Attached) (did : Handled) (reply : Option Reply) (changes : List Change) (new : Function) : Type 0 where
  later : Attached
  on : new.attached ≡ Some later
  handles : HandlesSo file g (function_at_desk desk) did reply changes (function_at_desk later)

module _ (file : File) (g : FnNo) (old : Function) (reply : Option Reply) (changes : List Change) (new : Function) where
  -- nothing is changed
  of_none : IsReplyOf g reply → changes ≡ [] → ((n : ℕ) → has_file n new.attached ≡ has_file n old.attached) → IsOfHandling g old reply changes new
  of_none replies none same = record {
    replies = replies;
    changed = subst (AreOf (file_number old)) (sym none) tt;
    others = λ n _. ap (filter (is_of n)) none;
    same_file = same;
  }

  -- it has this file before and behind
  file_stays : (before after : Attached) → old.attached ≡ Some before → new.attached ≡ Some after → after.file ≡ before.file → (n : ℕ)
      → has_file n new.attached ≡ has_file n old.attached
  file_stays before after was is same n = ap (has_file n) is ∙ ap (λ (k : ℕ). k == n) same ∙ sym (ap (has_file n) was)

  of_handling : (handled : Handled) → HandlesSo file g old handled reply changes new → IsOfHandling g old reply changes new
  of_handling did.None handles =
      of_none (subst (IsReplyOf g) (sym handles.1) tt) handles.2 (λ n. ap (λ (function : Function). has_file n function.attached) handles.3)
  of_handling did.Built handles =
      of_none (subst (IsReplyOf g) (sym handles.silent) tt) handles.unchanged
      (file_stays handles.attached (ready handles.attached) handles.on (ap (λ (function : Function). function.attached) handles.result) refl)
  of_handling (did.Held count) handles =
      let attached = handles.attached in
      let number : attached.file ≡ file_number old = sym (ap (λ has. option_map_or (λ (attached : Attached). attached.file) has 0) handles.on) in
      let of_it : AreOf attached.file changes = subst (AreOf attached.file) (sym handles.holds) (are_of_holding attached.file _) in record {
        replies = subst (IsReplyOf g) (sym handles.silent) tt;
        changed = subst (λ (k : ℕ). AreOf k changes) number of_it;
        others = λ n none. none_of_other attached.file n (eqb-false attached.file n (sym (ap (has_file n) handles.on) ∙ none)) changes of_it;
        same_file = file_stays attached (ready attached) handles.on (ap (λ (function : Function). function.attached) handles.result) refl;
      }
  of_handling did.NoSpace handles =
      let turn = handles.turn in
      of_none (subst (IsReplyOf g) (sym handles.replies) handles.is.takes) handles.unchanged
      (file_stays turn.attached (ready (ended turn)) handles.is.on (ap (λ (function : Function). function.attached) handles.result) refl)

  module _ (desk : Attached) (on : old.attached ≡ Some desk) where
    handled_alone : (handled : Handled) → HandlesSo file g old handled reply changes new → IsHandledAlone file g desk handled reply changes new
    handled_alone did.None handles = record {
      later = desk;
      on = ap (λ (function : Function). function.attached) handles.3 ∙ on;
      handles = (ap waits (sym on) ∙ handles.0, handles.1, handles.2, refl);
    }
      where
        waits : Option Attached → Option Miss
        waits has = option_and_then (λ (attached : Attached). attached.waiting) has
    handled_alone did.Built handles =
        let same : desk ≡ handles.attached = same_Some desk handles.attached (sym on ∙ handles.on) in record {
          later = ready handles.attached;
          on = ap (λ (function : Function). function.attached) handles.result;
          handles = record {
            attached = handles.attached;
            on = ap Some same;
            miss = handles.miss;
            waits = handles.waits;
            pruned = handles.pruned;
            unchanged = handles.unchanged;
            silent = handles.silent;
            result = refl;
          };
        }
    handled_alone (did.Held count) handles =
        let same : desk ≡ handles.attached = same_Some desk handles.attached (sym on ∙ handles.on) in record {
          later = ready handles.attached;
          on = ap (λ (function : Function). function.attached) handles.result;
          handles = record {
            attached = handles.attached;
            on = ap Some same;
            miss = handles.miss;
            waits = handles.waits;
            unmapped = handles.unmapped;
            holds = handles.holds;
            silent = handles.silent;
            result = refl;
          };
        }
    handled_alone did.NoSpace handles =
        let turn = handles.turn in record {
          later = ready (ended turn);
          on = ap (λ (function : Function). function.attached) handles.result;
          handles = record {
            turn = turn;
            is = record { takes = handles.is.takes; on = sym on ∙ handles.is.on; queue = handles.is.queue };
            miss = handles.miss;
            waits = handles.waits;
            unmapped = handles.unmapped;
            wants = handles.wants;
            unchanged = handles.unchanged;
            replies = handles.replies;
            result = refl;
          };
        }

module _ (f : FnNo) (n : ℕ) (old : State) (g : FnNo) (outcome : Outcome) (changes : List Change) (functions : List Function) (files : Files)
    (leads : LeadsTo old.now changes files)
    (step : Becomes (λ before after. Handles old.now g before outcome changes after) g.0 old.functions functions) where
  abbrev before : Function
  before = function_at old.functions g.0

  abbrev handling_done : Handled
  handling_done = step.becomes.did

  facts : IsOfHandling g before outcome.reply changes step.after
  facts =
      of_handling (file_at old.now (file_number before)) g before outcome.reply changes step.after handling_done step.becomes.handles

  had : (k : ℕ) → has old.functions g.0 k ≡ has_file k before.attached
  had k = ap (has_file k) (attached_at old.functions g.0)

  left : attached_of functions g.0 ≡ attached_of (with_numbered old.functions g.0 step.after) g.0
  left = ap (λ (functions : List Function). attached_of functions g.0) step.others

  handles_alone : g.0 ≡ f.0 → has old.functions f.0 n ≡ true → Sees f n old (handled handling_done ∷ []) (told_by outcome.reply) files functions
  handles_alone same some =
      let some_before : has_file n before.attached ≡ true = sym (had n) ∙ ap (λ (k : ℕ). has old.functions k n) same ∙ some in
      let found = desk_of_file n before.attached some_before in
      let desk = found.0 in
      let number : file_number before ≡ n = number_of n before.attached some_before in
      let alone = handled_alone (file_at old.now (file_number before)) g before outcome.reply changes step.after desk found.1 handling_done step.becomes.handles in
      let later = alone.later in
      let mine : attached_of old.functions f.0 ≡ Some desk = ap (attached_of old.functions) (sym same) ∙ attached_at old.functions g.0 ∙ found.1 in
      let was : attached_of old.functions g.0 ≡ Some desk = attached_at old.functions g.0 ∙ found.1 in
      let then : attached_of functions f.0 ≡ Some later =
      ap (attached_of functions) (sym same) ∙ left ∙ attached_with_same old.functions g.0 step.after desk was ∙ alone.on in
      let there : (later.file == n) ≡ true = sym (ap (has_file n) alone.on) ∙ facts.same_file n ∙ some_before in
      let now : get files n ≡ file_after_all changes (get old.now n) =
      changes_make old.now changes files n leads
      ∙ ap (λ (changes : List Change). file_after_all changes (get old.now n)) (all_of_same (file_number before) n number changes facts.changed) in
      let at_desk : desk_in f n old functions ≡ Some later = ap (desk_of n) then ∙ desk_with n later there in
      let this : g ≡ f = λ i. record { 0 = same i } in
      run_one f n (solo_in f n old) (handled handling_done) (told_by outcome.reply) (solo_with f n old files functions) (record {
        desk = desk;
        on = ap (desk_of n) mine ∙ desk_with n desk found.2;
        reply = outcome.reply;
        changes = changes;
        later = later;
        handles =
            subst (λ (f : FnNo). HandlesSo (file_at old.now n) f (function_at_desk desk) handling_done outcome.reply changes (function_at_desk later)) this
            (subst (λ (k : ℕ). HandlesSo (file_at old.now k) g (function_at_desk desk) handling_done outcome.reply changes (function_at_desk later)) number
            alone.handles);
        told = refl;
        result = λ i. record { now = now i; last_kept = get old.kept n; desk = at_desk i };
      })

  handling_is_done : IsDoneFor f n old changes files functions leads g (handled handling_done ∷ []) outcome.reply
  handling_is_done = record {
    replies = facts.replies;
    own = handles_alone;
    changed = λ none. facts.others n (sym (had n) ∙ none);
    apart = λ apart.
        ap (desk_of n)
        (ap (λ (functions : List Function). attached_of functions f.0) step.others
        ∙ attached_with_other old.functions f.0 g.0 step.after (λ same. apart (sym same)));
    without = λ same none.
        let none_before : has_file n before.attached ≡ false = sym (had n) ∙ ap (λ (k : ℕ). has old.functions k n) same ∙ none in
        let after : has_file n (attached_of functions g.0) ≡ false =
        ⊎_elim (λ (is : attached_of (with_numbered old.functions g.0 step.after) g.0 ≡ step.after.attached). ap (has_file n) (left ∙ is) ∙ facts.same_file n ∙ none_before)
        (λ (is : attached_of (with_numbered old.functions g.0 step.after) g.0 ≡ attached_of old.functions g.0). ap (has_file n) (left ∙ is) ∙ had n ∙ none_before)
        (attached_with old.functions g.0 step.after) in
        no_desk n (attached_of functions f.0) (ap (λ (k : ℕ). has_file n (attached_of functions k)) (sym same) ∙ after)
        ∙ sym (no_desk n (attached_of old.functions f.0) none);
  }

  pub sees_handling : Sees f n old (own_by f.0 n old.functions g.0 (own_of_handled outcome.answer) changes) (replies_of f.0 n old outcome.reply) files functions
  sees_handling =
      sees_as f n old _ (own_by f.0 n old.functions g.0 (handled handling_done ∷ []) changes) _ (replies_of f.0 n old outcome.reply) files functions
      (ap (λ (told : List OwnEvent). own_by f.0 n old.functions g.0 told changes) (ap own_of_handled step.becomes.told)) refl
      (sees_done f n old changes files functions leads g (handled handling_done ∷ []) outcome.reply handling_is_done)
