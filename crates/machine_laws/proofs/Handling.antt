-- What a handling comes to.
use Rattle.std.proofs.Common.{◌≡◌, ℕ, ◌≤◌, ◌&&◌, nat_eq, min, Bool, true, false, if◌then◌else◌, List, [], ◌∷◌, length, take, Option, Some, None, refl, sym, ap, ◌∙◌, subst, arith}
use Rattle.std.proofs.lemmas.Bool.{and_parts, cond-false, cond-true, cond_both, eqb-true, false≢true}
use Rattle.std.specs.Option.{is_some, option_and_then, option_map_or}
use Rattle.nesc_base.specs.Files.{File, Files, file_at}
use Rattle.nesc_base.specs.declared.numbers.FnNo.{FnNo}
use Rattle.nesc_requests.specs.declared.request.End.TheVariants as end
use Rattle.nesc_requests.specs.declared.request.Kind.{Kind}
use Rattle.nesc_requests.specs.declared.request.Kind.TheVariants.{Pruned, Unmapped}
use Rattle.nesc_requests.specs.declared.request.Miss.{Miss}
use Rattle.nesc_requests.specs.declared.request.Queued.{Queued}
use Rattle.nesc_requests.specs.declared.request.Reply.{Reply}
use Rattle.file_model.specs.Files.{Change, holding}
use Rattle.plain_machine.specs.Functions.{Attached, Function, IsSound, file_number, is_empty, waiting_of}
use Rattle.plain_machine.specs.Handlings.{HandlesSo, HasSpaceFor, is_wanted, ready, wanted}
use Rattle.plain_machine.specs.Ticks.{Turn, ended, reply_of}
use Rattle.plain_machine.specs.declared.outcome.Handled.{Handled}
use Rattle.plain_machine.specs.declared.outcome.Handled.TheVariants as handled
use Rattle.machine_laws.proofs.Leading.{CanLead, can_hold_wanted}

pub record Handling : Type 0 where
  pub did : Handled
  pub reply : Option Reply
  pub changes : List Change
  pub after : Function

-- what it waits for, if it has something
abbrev waiting_in : Option Attached → Option Miss
waiting_in = option_and_then (λ (attached : Attached). attached.waiting)

-- the number of its file
abbrev number_in : Option Attached → ℕ
number_in has = option_map_or (λ (attached : Attached). attached.file) has 0

-- a block is wanted, and none is free
abbrev lacks : Bool → ℕ → Bool
lacks wants free = wants && nat_eq free 0

lacks-true : (wants : Bool) (free : ℕ) → wants ≡ true → free ≡ 0 → lacks wants free ≡ true
lacks-true wants free some none = (λ i. some i && nat_eq (none i) 0)

lacks-false : (wants : Bool) (free : ℕ) → (wants ≡ true → 1 ≤ free) → lacks wants free ≡ false
lacks-false false free room = refl
lacks-false true free room = let some : 1 ≤ free = room refl in grind arith

room_from : (wants : Bool) (free : ℕ) → lacks wants free ≡ false → wants ≡ true → 1 ≤ free
room_from wants free room some = let apart : nat_eq free 0 ≡ false = sym (ap (λ b. lacks b free) some) ∙ room in grind arith

-- the file is this one, and so many data blocks are free
module _ (file : File) (free : ℕ) (f : FnNo) (old : Function) where
  abbrev pub nothing_handled : Handling
  nothing_handled = record { did = handled.None; reply = None; changes = []; after = old }

  abbrev pub built : Attached → Handling
  built attached = record { did = handled.Built; reply = None; changes = []; after = record old { attached = Some (ready attached) } }

  abbrev pub held : Attached → Miss → Handling
  held attached miss =
      let count = min (length (wanted file miss)) free in record {
        did = handled.Held count;
        reply = None;
        changes = holding attached.file (take count (wanted file miss));
        after = record old { attached = Some (ready attached) };
      }

  abbrev pub ended_without_space : Turn → Handling
  ended_without_space turn = record {
    did = handled.NoSpace;
    reply = Some (reply_of turn end.NoSpace turn.attached.done turn.head.request);
    changes = [];
    after = record old { attached = Some (ready (ended turn)) };
  }

  -- the first request ends; one waits where a function waits
  abbrev pub lacking : Attached → List Queued → Handling
  lacking attached [] = nothing_handled
  lacking attached (head ∷ rest) = ended_without_space (record { f = f; attached = attached; head = head; rest = rest })

  abbrev pub handling_for : Attached → Miss → Kind → Handling
  handling_for attached miss Pruned = built attached
  handling_for attached miss Unmapped =
      if lacks (is_wanted file miss) free then lacking attached attached.queue
      else held attached miss

  abbrev pub handling_of : Attached → Option Miss → Handling
  handling_of attached None = nothing_handled
  handling_of attached (Some miss) = handling_for attached miss miss.kind

  abbrev pub handling_at : Option Attached → Handling
  handling_at None = nothing_handled
  handling_at (Some attached) = handling_of attached attached.waiting

  abbrev pub handling : Handling
  handling = handling_at old.attached

  -- so it is for what the function waits for
  abbrev pub HasSpace : Handled → Type 0
  HasSpace did = (miss : Miss) → waiting_of old ≡ Some miss → HasSpaceFor free file miss did

  -- It comes to nothing else

  nothing_waits : (has : Option Attached) → waiting_in has ≡ None → handling_at has ≡ nothing_handled
  nothing_waits None none = refl
  nothing_waits (Some attached) none = ap (handling_of attached) none

  -- where it waits for this
  handling_waits : (attached : Attached) (miss : Miss) (kind : Kind) → old.attached ≡ Some attached → attached.waiting ≡ Some miss → miss.kind ≡ kind
      → handling ≡ handling_for attached miss kind
  handling_waits attached miss kind on waits is = ap handling_at on ∙ ap (handling_of attached) waits ∙ ap (handling_for attached miss) is

  pub handling_one : (did : Handled) (reply : Option Reply) (changes : List Change) (new : Function)
      → HandlesSo file f old did reply changes new → HasSpace did
      → record { did = did; reply = reply; changes = changes; after = new } ≡ handling
  handling_one handled.None reply changes new handles space =
      (λ i. record { did = handled.None; reply = handles.1 i; changes = handles.2 i; after = handles.3 i })
      ∙ sym (nothing_waits old.attached handles.0)
  handling_one handled.Built reply changes new handles space =
      (λ i. record { did = handled.Built; reply = handles.silent i; changes = handles.unchanged i; after = handles.result i })
      ∙ sym (handling_waits handles.attached handles.miss Pruned handles.on handles.waits handles.pruned)
  handling_one (handled.Held count) reply changes new handles space =
      let attached = handles.attached in
      let miss = handles.miss in
      let has = space miss (ap waiting_in handles.on ∙ handles.waits) in
      let changes = handles.holds ∙ ap (λ (n : ℕ). holding attached.file (take n (wanted file miss))) has.0 in
      (λ i. record { did = handled.Held (has.0 i); reply = handles.silent i; changes = changes i; after = handles.result i })
      ∙ sym (handling_waits attached miss Unmapped handles.on handles.waits handles.unmapped
      ∙ cond-false _ _ _ (lacks-false (is_wanted file miss) free has.1))
  handling_one handled.NoSpace reply changes new handles space =
      let turn = handles.turn in
      let miss = handles.miss in
      let none = space miss (ap waiting_in handles.is.on ∙ handles.waits) in
      let takes : ended_without_space turn ≡ ended_without_space (record turn { f = f }) = λ i. ended_without_space (record turn { f = handles.is.takes i }) in
      (λ i. record { did = handled.NoSpace; reply = handles.replies i; changes = handles.unchanged i; after = handles.result i })
      ∙ takes
      ∙ sym (handling_waits turn.attached miss Unmapped handles.is.on handles.waits handles.unmapped
      ∙ cond-true _ _ _ (lacks-true (is_wanted file miss) free handles.wants none)
      ∙ ap (lacking turn.attached) handles.is.queue)

-- And it does come to that

module _ (files : Files) (free : ℕ) (f : FnNo) (old : Function) where
  -- the file of the function
  abbrev handled_file : File
  handled_file = file_at files (file_number old)

  pub record CanHandle (to : Handling) : Type 0 where
    pub handles : HandlesSo handled_file f old to.did to.reply to.changes to.after
    pub space : HasSpace handled_file free f old to.did
    pub leads : CanLead files to.changes

  none_can : waiting_of old ≡ None → CanHandle (nothing_handled handled_file free f old)
  none_can none = record { handles = (none, refl, refl, refl); space = λ miss _. tt; leads = (files, refl) }

  module _ (attached : Attached) (on : old.attached ≡ Some attached) (miss : Miss) (waits : attached.waiting ≡ Some miss) where
    -- it waits for nothing else
    waits_for : (other : Miss) → waiting_of old ≡ Some other → miss ≡ other
    waits_for other is = let same : Some miss ≡ Some other = sym waits ∙ sym (ap waiting_in on) ∙ is in cc

    lacking_can : miss.kind ≡ Unmapped → (queue : List Queued) → attached.queue ≡ queue → is_empty queue ≡ false
        → lacks (is_wanted handled_file miss) free ≡ true → CanHandle (lacking handled_file free f old attached queue)
    lacking_can unmapped [] queue some lack = absurd (false≢true (sym some))
    lacking_can unmapped (head ∷ rest) queue some lack =
        let parts = and_parts (is_wanted handled_file miss) (nat_eq free 0) lack in
        let turn : Turn = record { f = f; attached = attached; head = head; rest = rest } in record {
          handles = record {
            turn = turn;
            is = record { takes = refl; on = on; queue = queue };
            miss = miss;
            waits = waits;
            unmapped = unmapped;
            wants = parts.0;
            unchanged = refl;
            replies = refl;
            result = refl;
          };
          space = λ other _. eqb-true free 0 parts.1;
          leads = (files, refl);
        }

    held_can : miss.kind ≡ Unmapped → lacks (is_wanted handled_file miss) free ≡ false → CanHandle (held handled_file free f old attached miss)
    held_can unmapped room =
        let count = min (length (wanted handled_file miss)) free in
        let number : file_number old ≡ attached.file = ap number_in on in record {
          handles = record {
            attached = attached;
            on = on;
            miss = miss;
            waits = waits;
            unmapped = unmapped;
            holds = refl;
            silent = refl;
            result = refl;
          };
          space = λ other is. subst (λ (miss : Miss). HasSpaceFor free handled_file miss (handled.Held count)) (waits_for other is) (refl, room_from (is_wanted handled_file miss) free room);
          leads = subst (λ (n : ℕ). CanLead files (holding n (take count (wanted handled_file miss)))) number
              (can_hold_wanted files (file_number old) miss count);
        }

    waiting_can : IsSound old → (kind : Kind) → miss.kind ≡ kind → CanHandle (handling_for handled_file free f old attached miss kind)
    waiting_can sound Pruned is = record {
      handles = record { attached = attached; on = on; miss = miss; waits = waits; pruned = is; unchanged = refl; silent = refl; result = refl };
      space = λ other _. tt;
      leads = (files, refl);
    }
    waiting_can sound Unmapped is =
        cond_both (lacks (is_wanted handled_file miss) free) _ _ CanHandle
        (lacking_can is attached.queue refl (sound attached on (ap is_some waits)))
        (held_can is)

  handles_of : IsSound old → (attached : Attached) → old.attached ≡ Some attached → (waits : Option Miss) → attached.waiting ≡ waits
      → CanHandle (handling_of handled_file free f old attached waits)
  handles_of sound attached on None none = none_can (ap waiting_in on ∙ none)
  handles_of sound attached on (Some miss) waits = waiting_can attached on miss waits sound miss.kind refl

  handles_at : IsSound old → (has : Option Attached) → old.attached ≡ has → CanHandle (handling_at handled_file free f old has)
  handles_at sound None off = none_can (ap waiting_in off)
  handles_at sound (Some attached) on = handles_of sound attached on attached.waiting refl

  pub handling_handles : IsSound old → CanHandle (handling handled_file free f old)
  handling_handles sound = handles_at sound old.attached refl
