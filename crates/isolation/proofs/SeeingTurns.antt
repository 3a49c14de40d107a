-- A tick, as one function and one file see it.
use Rattle.std.proofs.Common.{◌≡◌, ◌≢◌, ◌⊎◌, ℕ, ◌==◌, inl, inr, true, false, cond, List, [], ◌∷◌, filter, Option, Some, None, refl, sym, ap, ◌∙◌, subst, ⊎_elim}
use Rattle.std.specs.FinMap.{get}
use Rattle.std.proofs.lemmas.Bool.{and_from, and_left, and_right, cases_eq, cond-false, cond-true, cond_both, eq-eqb, eqb-false, eqb-true, ne_eqb}
use Rattle.nesc_base.specs.Files.{File, Files, file_at}
use Rattle.nesc_base.specs.declared.numbers.FnNo.{FnNo}
use Rattle.nesc_requests.specs.declared.request.Reply.{Reply}
use Rattle.nesc_requests.specs.declared.request.Request.{Request}
use Rattle.nesc_requests.specs.declared.request.Request.TheVariants.{Flush, Read, Write}
use Rattle.file_model.specs.Files.{Change, LeadsTo}
use Rattle.plain_machine.specs.Functions.{Attached, Function, attached_of, has_file}
use Rattle.plain_machine.specs.Given.{is_failed_read}
use Rattle.plain_machine.specs.State.{State}
use Rattle.plain_machine.specs.Ticks.{FailsToRead, ServesBlock, TakesTurn, Ticks, Turn, TurnsTo, is_last, replied_to, served_changes, served_of}
use Rattle.plain_machine.specs.declared.outcome.Answer.{Answer}
use Rattle.plain_machine.specs.declared.outcome.Answer.TheVariants.{Flushed, Missed, Served}
use Rattle.plain_machine.specs.declared.outcome.How.{How}
use Rattle.plain_machine.specs.declared.outcome.How.TheVariants.{Range}
use Rattle.plain_machine.specs.declared.outcome.Outcome.{Outcome}
use Rattle.isolation.specs.History.{OwnEvent, bare, changes_of, has, is_of, own_by, own_of_turn, replies_of, taken_by, ticked}
use Rattle.isolation.specs.Solo.{desk_of, file_after_all, solo_in, told_by}
use Rattle.isolation.proofs.AtDesk.{attached_at, attached_with_other, attached_with_same, desk_with, desk_without}
use Rattle.isolation.proofs.OneFile.{AreOf, all_of_same, by_test, changes_make, none_of_other}
use Rattle.isolation.proofs.Seeing.{Sees, desk_in, run_one, sees_as, sees_nothing, sees_own_changes, solo_with}

-- What is so of a turn, whatever it comes to

-- a reply is the function's, if there is one
abbrev pub IsReplyOf : FnNo → Option Reply → Type 0
IsReplyOf f None = Unit {0}
IsReplyOf f (Some reply) = reply.f ≡ f

record IsOfTurn (turn : Turn) (answer : Answer) (reply : Option Reply) (changes : List Change) (later : Attached) : Type 0 where
  taken : taken_by answer ≡ Some turn.f
  replies : IsReplyOf turn.f reply
  changed : AreOf turn.attached.file changes
  same_file : later.file ≡ turn.attached.file

served_of_file : (n v done : ℕ) (request : Request) → AreOf n (served_changes n v done request)
served_of_file n v done (Read at into) = tt
served_of_file n v done (Write at from) = (eq-eqb n n refl, tt)
served_of_file n v done Flush = tt

module _ (file : File) (turn : Turn) (after : Option ℕ) (reply : Option Reply) (changes : List Change) (later : Attached) where
  of_end : (answer : Answer) → taken_by answer ≡ Some turn.f → IsReplyOf turn.f reply → changes ≡ [] → later.file ≡ turn.attached.file
      → IsOfTurn turn answer reply changes later
  of_end answer taken replies none same =
      record { taken = taken; replies = replies; changed = subst (AreOf turn.attached.file) (sym none) tt; same_file = same }

  -- a reply with this one's function
  this_reply : (this : Reply) → reply ≡ Some this → this.f ≡ turn.f → IsReplyOf turn.f reply
  this_reply this is mine = subst (IsReplyOf turn.f) (sym is) mine

  last_reply : (request : Request) → IsReplyOf turn.f (replied_to turn request)
  last_reply request = cond_both (is_last turn) _ _ (IsReplyOf turn.f) (λ _. refl) (λ _. tt)

  served_file : (request : Request) → (served_of turn request).file ≡ turn.attached.file
  served_file request = cond_both (is_last turn) _ _ (λ (later : Attached). later.file ≡ turn.attached.file) (λ _. refl) (λ _. refl)

  of_block : (how : How) (answer : Answer) → taken_by answer ≡ Some turn.f
      → ServesBlock file turn how after reply changes later ⊎ FailsToRead file turn how after reply changes later → IsOfTurn turn answer reply changes later
  of_block how answer taken (inl serves) = record {
    taken = taken;
    replies = subst (IsReplyOf turn.f) (sym serves.replies) (last_reply serves.request);
    changed = subst (AreOf turn.attached.file) (sym serves.puts) (served_of_file _ _ _ turn.head.request);
    same_file = ap (λ (later : Attached). later.file) serves.result ∙ served_file serves.request;
  }
  of_block how answer taken (inr fails) =
      of_end answer taken (this_reply _ fails.replies refl) fails.unchanged (ap (λ (later : Attached). later.file) fails.result)

  of_turn : (answer : Answer) → TurnsTo file turn answer after reply changes later → IsOfTurn turn answer reply changes later
  of_turn (Flushed f) turns =
      of_end (Flushed f) (ap Some turns.0) (this_reply _ turns.1.replies refl) turns.1.unchanged (ap (λ (later : Attached). later.file) turns.1.result)
  of_turn (Served f v Range) turns =
      of_end (Served f v Range) (ap Some turns.0) (this_reply _ turns.2.replies refl) turns.2.unchanged
      (ap (λ (later : Attached). later.file) turns.2.result)
  of_turn (Served f v how) turns = of_block how (Served f v how) (ap Some turns.0) turns.2
  of_turn (Missed f miss fetched) turns =
      of_end (Missed f miss fetched) (ap Some turns.0) (subst (IsReplyOf turn.f) (sym turns.1.silent) tt) turns.1.unchanged
      (ap (λ (later : Attached). later.file) turns.1.result)
  of_turn answer turns = absurd turns

-- Replies

module _ (f : FnNo) (n : ℕ) (old : State) where
  -- one of another function is not told
  reply_of_other : (g : FnNo) (reply : Option Reply) → IsReplyOf g reply → g.0 ≢ f.0 → replies_of f.0 n old reply ≡ []
  reply_of_other g None is apart = refl
  reply_of_other g (Some reply) is apart =
      cond-false _ _ _ (and_left (reply.f.0 == f.0) (has old.functions f.0 n) (ne_eqb reply.f.0 f.0 (λ same. apart (sym (ap (λ (g : FnNo). g.0) is) ∙ same))))

  -- nor is one where the function does not have the file
  reply_without : (reply : Option Reply) → has old.functions f.0 n ≡ false → replies_of f.0 n old reply ≡ []
  reply_without None none = refl
  reply_without (Some reply) none = cond-false _ _ _ (and_right (reply.f.0 == f.0) (has old.functions f.0 n) none)

  reply_told : (g : FnNo) (reply : Option Reply) → IsReplyOf g reply → g.0 ≡ f.0 → has old.functions f.0 n ≡ true → replies_of f.0 n old reply ≡ told_by reply
  reply_told g None is same some = refl
  reply_told g (Some reply) is same some =
      cond-true _ _ _ (and_from (reply.f.0 == f.0) (has old.functions f.0 n) (eq-eqb reply.f.0 f.0 (ap (λ (g : FnNo). g.0) is ∙ same)) some)

  -- What is done for a function

  module _ (changes : List Change) (files : Files) (functions : List Function) (leads : LeadsTo old.now changes files) where
    -- what is done for function g, with this reply
    pub record IsDoneFor (g : FnNo) (told : List OwnEvent) (reply : Option Reply) : Type 0 where
      pub replies : IsReplyOf g reply
      pub own : g.0 ≡ f.0 → has old.functions f.0 n ≡ true → Sees f n old told (told_by reply) files functions
      pub changed : has old.functions g.0 n ≡ false → filter (is_of n) changes ≡ []
      pub apart : g.0 ≢ f.0 → desk_in f n old functions ≡ desk_in f n old old.functions
      pub without : g.0 ≡ f.0 → has old.functions f.0 n ≡ false → desk_in f n old functions ≡ desk_in f n old old.functions

    pub sees_done : (g : FnNo) (told : List OwnEvent) (reply : Option Reply) → IsDoneFor g told reply
        → Sees f n old (own_by f.0 n old.functions g.0 told changes) (replies_of f.0 n old reply) files functions
    sees_done g told reply done =
        ⊎_elim (λ (same : g.0 ≡ f.0).
        by_test (λ b. Sees f n old (cond b (cond (g.0 == f.0) told (changes_of n changes)) []) (replies_of f.0 n old reply) files functions)
        (has old.functions g.0 n)
        (λ some.
        let some = ap (λ (k : ℕ). has old.functions k n) (sym same) ∙ some in
        sees_as f n old _ told _ (told_by reply) files functions (cond-true _ _ _ (eq-eqb g.0 f.0 same)) (reply_told g reply done.replies same some)
        (done.own same some))
        (λ none.
        let here = ap (λ (k : ℕ). has old.functions k n) (sym same) ∙ none in
        sees_as f n old [] [] _ [] files functions refl (reply_without reply here)
        (sees_nothing f n old changes files functions leads (done.changed none) (done.without same here))))
        (λ (apart : g.0 ≢ f.0).
        by_test (λ b. Sees f n old (cond b (cond (g.0 == f.0) told (changes_of n changes)) []) (replies_of f.0 n old reply) files functions)
        (has old.functions g.0 n)
        (λ some.
        sees_as f n old _ (changes_of n changes) _ [] files functions (cond-false _ _ _ (ne_eqb g.0 f.0 apart)) (reply_of_other g reply done.replies apart)
        (sees_own_changes f n old changes files functions leads (done.apart apart)))
        (λ none.
        sees_as f n old [] [] _ [] files functions refl (reply_of_other g reply done.replies apart)
        (sees_nothing f n old changes files functions leads (done.changed none) (done.apart apart))))
        (cases_eq g.0 f.0)

  -- Ticks

  module _ (outcome : Outcome) (changes : List Change) (functions : List Function) (last : ℕ) (files : Files) (leads : LeadsTo old.now changes files) where
    module _ (takes : TakesTurn old outcome changes functions last) where
      abbrev g : FnNo
      g = takes.f

      abbrev turn : Turn
      turn = takes.serves.becomes.turn

      abbrev later : Attached
      later = takes.serves.becomes.later

      facts : IsOfTurn turn outcome.answer outcome.reply changes later
      facts =
          let serves = takes.serves.becomes in
          of_turn (file_at old.now turn.attached.file) turn outcome.after outcome.reply changes later outcome.answer serves.turns

      had : attached_of old.functions g.0 ≡ Some turn.attached
      had = attached_at old.functions g.0 ∙ takes.serves.becomes.is.on

      has_now : attached_of functions g.0 ≡ Some later
      has_now =
          ap (λ (functions : List Function). attached_of functions g.0) takes.serves.others
          ∙ attached_with_same old.functions g.0 takes.serves.after turn.attached had
          ∙ ap (λ (function : Function). function.attached) takes.serves.becomes.result

      -- the event of the tick
      abbrev tick_event : OwnEvent
      tick_event = ticked (bare outcome.answer) outcome.after (is_failed_read outcome.reply)

      turns_alone : g.0 ≡ f.0 → has old.functions f.0 n ≡ true → Sees f n old (tick_event ∷ []) (told_by outcome.reply) files functions
      turns_alone same some =
          let serves = takes.serves.becomes in
          let mine : attached_of old.functions f.0 ≡ Some turn.attached = ap (attached_of old.functions) (sym same) ∙ had in
          let then : attached_of functions f.0 ≡ Some later = ap (attached_of functions) (sym same) ∙ has_now in
          let here : (turn.attached.file == n) ≡ true = sym (ap (has_file n) mine) ∙ some in
          let number : turn.attached.file ≡ n = eqb-true turn.attached.file n here in
          let there : (later.file == n) ≡ true = ap (λ (k : ℕ). k == n) facts.same_file ∙ here in
          let now : get files n ≡ file_after_all changes (get old.now n) =
          changes_make old.now changes files n leads
          ∙ ap (λ (changes : List Change). file_after_all changes (get old.now n)) (all_of_same turn.attached.file n number changes facts.changed) in
          let desk : desk_in f n old functions ≡ Some later = ap (desk_of n) then ∙ desk_with n later there in
          run_one f n (solo_in f n old) tick_event (told_by outcome.reply) (solo_with f n old files functions) (record {
            desk = turn.attached;
            on = ap (desk_of n) mine ∙ desk_with n turn.attached here;
            turn = turn;
            is = record { takes = serves.is.takes ∙ (λ i. record { 0 = same i }); on = refl; queue = serves.is.queue };
            answer = outcome.answer;
            is_line = refl;
            reply = outcome.reply;
            changes = changes;
            later = later;
            turns = subst (λ (k : ℕ). TurnsTo (file_at old.now k) turn outcome.answer outcome.after outcome.reply changes later) number serves.turns;
            fails = refl;
            told = refl;
            result = λ i. record { now = now i; last_kept = get old.kept n; desk = desk i };
          })

      turn_done : IsDoneFor changes files functions leads g (tick_event ∷ []) outcome.reply
      turn_done = record {
        replies = subst (λ (g : FnNo). IsReplyOf g outcome.reply) takes.serves.becomes.is.takes facts.replies;
        own = turns_alone;
        changed = λ none.
            none_of_other turn.attached.file n (eqb-false turn.attached.file n (sym (ap (has_file n) had) ∙ none)) changes facts.changed;
        apart = λ apart.
            ap (desk_of n)
            (ap (λ (functions : List Function). attached_of functions f.0) takes.serves.others
            ∙ attached_with_other old.functions f.0 g.0 takes.serves.after (λ same. apart (sym same)));
        without = λ same none.
            let mine : attached_of old.functions f.0 ≡ Some turn.attached = ap (attached_of old.functions) (sym same) ∙ had in
            let then : attached_of functions f.0 ≡ Some later = ap (attached_of functions) (sym same) ∙ has_now in
            let here : (turn.attached.file == n) ≡ false = sym (ap (has_file n) mine) ∙ none in
            let there : (later.file == n) ≡ false = ap (λ (k : ℕ). k == n) facts.same_file ∙ here in
            ap (desk_of n) then ∙ desk_without n later there ∙ sym (ap (desk_of n) mine ∙ desk_without n turn.attached here);
      }

    pub sees_tick : Ticks old outcome changes functions last
        → Sees f n old (own_of_turn f.0 n old (taken_by outcome.answer) outcome changes) (replies_of f.0 n old outcome.reply) files functions
    sees_tick (inl is) =
        sees_as f n old _ [] _ [] files functions
        (ap (λ (taken : Option FnNo). own_of_turn f.0 n old taken outcome changes) (ap taken_by is.idle))
        (ap (replies_of f.0 n old) is.silent)
        (sees_nothing f n old changes files functions leads (ap (filter (is_of n)) is.unchanged) (ap (desk_in f n old) is.same))
    sees_tick (inr takes) =
        let taken = (facts takes).taken ∙ ap Some takes.serves.becomes.is.takes in
        sees_as f n old _ (own_by f.0 n old.functions takes.f.0 (tick_event takes ∷ []) changes) _ (replies_of f.0 n old outcome.reply) files functions
        (ap (λ (taken : Option FnNo). own_of_turn f.0 n old taken outcome changes) taken) refl
        (sees_done changes files functions leads takes.f (tick_event takes ∷ []) outcome.reply (turn_done takes))
