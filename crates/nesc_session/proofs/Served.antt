-- A function is served one block of its first request, or waits, over some files.
use Rattle.std.proofs.Common.{◌≡◌, inl, inr, ℕ, ◌+◌, ◌-◌, ◌<◌, ◌≤◌, nat_le, Bool, true, false, if◌then◌else◌, List, [], ◌∷◌, length, Option, None, Some, refl, sym, ap, subst, ◌∙◌, arith}
use Rattle.std.specs.Prelude.{◌&&◌, IfSome, is_none, option_map, unwrap_or}
use Rattle.std.specs.FinMap.{get}
use Rattle.std.proofs.lemmas.Bool.{false≢true}
use Rattle.std.proofs.lemmas.Bool.Decides.{nat_tests}
use Rattle.nesc_base.specs.declared.block.Block.{Block}
use Rattle.nesc_base.specs.declared.numbers.FileNo.{FileNo}
use Rattle.nesc_base.specs.declared.numbers.FnNo.{FnNo}
use Rattle.nesc_base.specs.Files.{File, Files, file_at, longest_file}
use Rattle.nesc_base.specs.Places.{Places}
use Rattle.nesc_requests.specs.Requests.{block_count, first_of, is_flush, is_write}
use Rattle.nesc_requests.specs.declared.request.End.{End}
use Rattle.nesc_requests.specs.declared.request.End.TheVariants as end
use Rattle.nesc_requests.specs.declared.request.Kind.{Kind}
use Rattle.nesc_requests.specs.declared.request.Kind.TheVariants.{Pruned, Unmapped}
use Rattle.nesc_requests.specs.declared.request.Miss.{Miss}
use Rattle.nesc_requests.specs.declared.request.Queued.{Queued}
use Rattle.nesc_requests.specs.declared.request.Reply.{Reply}
use Rattle.nesc_requests.specs.declared.request.Request.{Request}
use Rattle.nesc_requests.specs.declared.request.Request.TheVariants.{Flush, Read, Write}
use Rattle.file_layer.specs.Layer.{Layer}
use Rattle.file_layer.proofs.Spaces.{length_or_none}
use Rattle.file_model.specs.Files.{Change, holds}
use Rattle.host_journal.specs.Journal.{Journal}
use Rattle.hypervisor.specs.Carrying.{Carries}
use Rattle.request_queues.specs.Queue.{Queue, without_first}
use Rattle.plain_machine.specs.Functions.{Attached}
use Rattle.plain_machine.specs.Ticks.{MayWait, Reaches, Serves, ServesBlock, Turn, TurnsTo, ended, is_last, is_read, replied_to, served_changes, served_of}
use Rattle.plain_machine.specs.declared.outcome.Answer.{Answer}
use Rattle.plain_machine.specs.declared.outcome.Answer.TheVariants.{Flushed, Missed, Served}
use Rattle.plain_machine.specs.declared.outcome.How.{How}
use Rattle.plain_machine.specs.declared.outcome.How.TheVariants.{Hit, Hole, Range, Walk}
use Rattle.plain_machine.specs.declared.outcome.Outcome.{Outcome}
use Rattle.nesc_session.specs.Requests.{MayWaitFor, Requests, WaitsForHead, function_of, starts_with_flush}
use Rattle.nesc_session.specs.Serving.{Ends, ServesOver, reply_to_first}

-- the tests of an order
passes : (m n : ℕ) → m ≤ n → nat_le m n ≡ true
passes m n within = grind (arith, nat_tests)

fails : (m n : ℕ) → n < m → nat_le m n ≡ false
fails m n above = grind (arith, nat_tests)

-- no block is reached at or past the length
no_range : (file : File) (v done : ℕ) (request after : Request) → Reaches file v done request Range after → ⊥
no_range file v done (Read at into) after reached = reached
no_range file v done (Write at from) after reached = reached
no_range file v done Flush after reached = reached

-- a write is no flush
pub no_flush : (request : Request) → is_write request ≡ true → is_flush request ≡ false
no_flush (Read at into) write = refl
no_flush (Write at from) write = refl
no_flush Flush write = absurd (false≢true write)

-- a function that is ready waits for nothing
pub none_waits : (some : Bool) (waiting : Option Miss) → (some && is_none waiting) ≡ true → waiting ≡ None
none_waits some None is = refl
none_waits true (Some miss) is = absurd (false≢true is)
none_waits false (Some miss) is = absurd (false≢true is)

-- and one that has a flush first
pub flush_waits_not : (waiting : Option Miss) (done : ℕ) (queue : List Queued) → WaitsForHead waiting done queue → starts_with_flush queue ≡ true → waiting ≡ None
flush_waits_not None done queue waits flush = refl
flush_waits_not (Some miss) done [] waits flush = absurd waits
flush_waits_not (Some miss) done (head ∷ rest) waits flush = absurd (for_kind miss.kind waits.0)
  where
    for_kind : (kind : Kind) → MayWaitFor (head ∷ rest) kind → ⊥
    for_kind Pruned may = false≢true (sym may ∙ flush)
    for_kind Unmapped may = false≢true (sym (no_flush head.request may) ∙ flush)

-- the block that it comes to is one that a file may have
pub below_longest : (length : Option ℕ) (v : ℕ) → v < unwrap_or length 0 → IfSome length (λ l. l ≤ longest_file) → v < longest_file
below_longest None v below short = absurd (omega arith)
below_longest (Some l) v below short = omega arith

-- the length that is found, 0 where there is no file
pub length_found : (set : Files) (n : ℕ) (found : Option ℕ) (length : ℕ) → length ≡ unwrap_or found 0 → found ≡ option_map (λ (held : File). held.length) (get set n) → length ≡ (file_at set n).length
length_found set n found length is found_is = is ∙ ap (λ o. unwrap_or o 0) found_is ∙ length_or_none (get set n)

-- the files change as the function is served
pub over : (files : Layer) (before after : Journal) (kept : List Block) (set : Files) (places : Places) (f : FnNo) (file : FileNo) (old : Requests) (outcome : Outcome) (new : Requests)
    (changes made : List Change) → changes ≡ made → Serves set f (function_of (Some file) old) outcome made (function_of (Some file) new)
    → Carries files before kept set places changes files after → ServesOver files before kept set places f file old outcome new after
over files before after kept set places f file old outcome new changes made is serves carries = record {
  changes = changes;
  serves = subst (λ (cs : List Change). Serves set f (function_of (Some file) old) outcome cs (function_of (Some file) new)) (sym is) serves;
  carries = carries;
}

-- a step without a commit, and without trees
abbrev pub plain : Answer → Option Reply → Outcome
plain answer reply = record { before = None; answer = answer; drops = 0; built = None; after = None; reply = reply }

-- what was told where the first request of the queue ended, and the queue without it
pub ends_told : (f : FnNo) (answer : Answer) (ending : End) (was old : Queue) (outcome : Outcome) (new : Queue) (head : Queued) (rest : List Queued) (done : ℕ)
    → Ends f answer ending was outcome new → was ≡ record old { requests = head ∷ rest; done = done }
    → outcome ≡ plain answer (Some (record { f = f; id = head.id; end = ending; done = done; request = head.request }))
ends_told f answer ending was old outcome new head rest done ends is = ends.told ∙ ap (λ (q : Queue). plain answer (reply_to_first f ending q.requests q.done)) is

pub ends_left : (f : FnNo) (answer : Answer) (ending : End) (was old : Queue) (outcome : Outcome) (new : Queue) (head : Queued) (rest : List Queued) (done : ℕ)
    → Ends f answer ending was outcome new → was ≡ record old { requests = head ∷ rest; done = done } → new ≡ record old { requests = rest; done = 0 }
ends_left f answer ending was old outcome new head rest done ends is = ends.rest ∙ ap without_first is

-- The first request is served, and v is the first of its blocks that are not done.
module _ (set : Files) (f : FnNo) (file : FileNo) (old : Requests) (queue : Queue) (head : Queued) (rest : List Queued) (v : ℕ) (queue_is : old.queue ≡ queue)
    (idle : old.waiting ≡ None) (split : queue.requests ≡ head ∷ rest) (at : v ≡ first_of head.request + queue.done) where
  abbrev attached : Attached
  attached = record { file = file.0; queue = queue.requests; done = queue.done; waiting = None }

  abbrev turn : Turn
  turn = record { f = f; attached = attached; head = head; rest = rest }

  abbrev own : File
  own = file_at set file.0

  -- the request with other blocks
  abbrev with_blocks : Request → List Queued
  with_blocks after = (record head { request = after }) ∷ rest

  -- what is told where it ends
  abbrev ended_as : Answer → End → ℕ → Request → Outcome
  ended_as answer ending done after = plain answer (Some (record { f = f; id = head.id; end = ending; done = done; request = after }))

  -- the function is served so
  abbrev pub ServesSo : Outcome → List Change → Requests → Type 0
  ServesSo outcome changes new = Serves set f (function_of (Some file) old) outcome changes (function_of (Some file) new)

  -- what it has then
  abbrev HasThen : Attached → Requests → Type 0
  HasThen later new = function_of (Some file) new ≡ record (function_of (Some file) old) { attached = Some later }

  serves : (told outcome : Outcome) (changes : List Change) (later : Attached) (new : Requests) → outcome ≡ told → TurnsTo own turn told.answer told.after told.reply changes later
      → HasThen later new → ServesSo outcome changes new
  serves told outcome changes later new told_is turns result = subst (λ (o : Outcome). ServesSo o changes new) (sym told_is)
      (record {
        turn = turn;
        is = record { takes = refl; on = λ i. Some (record { file = file.0; queue = (queue_is i).requests; done = (queue_is i).done; waiting = idle i }); queue = split };
        later = later;
        turns = turns;
        result = result;
      })

  has_then : (requests : List Queued) (done : ℕ) (waiting : Option Miss) (new : Requests) → new.queue ≡ record queue { requests = requests; done = done } → new.waiting ≡ waiting
      → HasThen (record attached { queue = requests; done = done; waiting = waiting }) new
  has_then requests done waiting new new_is waits =
      let next = ap (λ (q : Queue). q.next) new_is ∙ sym (ap (λ (q : Queue). q.next) queue_is) in
      λ i. record { attached = Some (record { file = file.0; queue = (new_is i).requests; done = (new_is i).done; waiting = waits i }); next = next i }

  -- at or past the length
  pub serves_past : is_flush head.request ≡ false → own.length ≤ v → (outcome : Outcome) (new : Requests) → outcome ≡ ended_as (Served f v Range) end.Range queue.done head.request
      → new.queue ≡ record queue { requests = rest; done = 0 } → new.waiting ≡ None → ServesSo outcome [] new
  serves_past for_blocks past outcome new told new_is waits =
      serves (ended_as (Served f v Range) end.Range queue.done head.request) outcome [] (ended turn) new told
      (refl, at, record { for_blocks = for_blocks; past = omega (arith, at, past); no_commit = refl; unchanged = refl; replies = refl; result = refl }) (has_then rest 0 None new new_is waits)

  -- it was a flush
  pub serves_flush : is_flush head.request ≡ true → (clock : ℕ) (outcome : Outcome) (new : Requests) → outcome ≡ record (ended_as (Flushed f) (end.Flushed clock) 0 head.request) { after = Some clock }
      → new.queue ≡ record queue { requests = rest; done = 0 } → new.waiting ≡ None → ServesSo outcome [] new
  serves_flush asked clock outcome new told new_is waits =
      serves (record (ended_as (Flushed f) (end.Flushed clock) 0 head.request) { after = Some clock }) outcome [] (ended turn) new told
      (refl, record { asked = asked; clock = clock; commits = refl; unchanged = refl; replies = refl; result = refl }) (has_then rest 0 None new new_is waits)

  module _ (below : v < own.length) (after : Request) where
    -- a write to a block that is not held
    pub serves_missed : is_write head.request ≡ true → holds own v ≡ false → (miss : Miss) → miss ≡ record { v = v; n = block_count head.request - queue.done; kind = Unmapped }
        → (outcome : Outcome) (new : Requests) → outcome ≡ plain (Missed f miss 0) None → new.queue ≡ queue → new.waiting ≡ Some miss → ServesSo outcome [] new
    serves_missed write unheld miss miss_is outcome new told new_is waits =
        serves (plain (Missed f miss 0) None) outcome [] (record attached { waiting = Some miss }) new told (
          refl,
          record {
            below = omega (arith, at, below);
            why = subst (λ (m : Miss). MayWait own (first_of head.request + queue.done) head.request m.kind) (sym miss_is)
                (subst (λ (k : ℕ). MayWait own k head.request Unmapped) at (write, unheld));
            at = ap (λ (m : Miss). m.v) miss_is ∙ at;
            as_many = ap (λ (m : Miss). m.n) miss_is;
            no_commit = refl;
            unchanged = refl;
            silent = refl;
            result = refl;
          },
        ) (has_then queue.requests queue.done (Some miss) new new_is waits)

    -- the disk failed to read a block
    pub serves_failed : after ≡ head.request → is_read head.request ≡ true → holds own v ≡ true → (outcome : Outcome) (new : Requests)
        → outcome ≡ ended_as (Served f v (Walk 0)) end.Media queue.done after → new.queue ≡ record queue { requests = rest; done = 0 } → new.waiting ≡ None → ServesSo outcome [] new
    serves_failed same reads held outcome new told new_is waits =
        serves (ended_as (Served f v (Walk 0)) end.Media queue.done after) outcome [] (ended turn) new told (
          refl,
          at,
          inr
              (record {
                below = omega (arith, at, below);
                held = subst (λ (k : ℕ). holds own k ≡ true) at held;
                on_disk = tt;
                read = reads;
                no_commit = refl;
                unchanged = refl;
                replies = ap (λ r. Some (record { f = f; id = head.id; end = end.Media; done = queue.done; request = r })) same;
                result = refl;
              }),
        ) (has_then rest 0 None new new_is waits)

    -- a block is reached
    module _ (how : How) (reached : Reaches own v queue.done head.request how after) where
      is_served : ServesBlock own turn how None (replied_to turn after) (served_changes file.0 v queue.done head.request) (served_of turn after)
      is_served = record {
        below = omega (arith, at, below);
        request = after;
        reaches = subst (λ (k : ℕ). Reaches own k queue.done head.request how after) at reached;
        no_commit = refl;
        puts = ap (λ (k : ℕ). served_changes file.0 k queue.done head.request) at;
        replies = refl;
        result = refl;
      }

      turns : (how : How) → Reaches own v queue.done head.request how after → ServesBlock own turn how None (replied_to turn after) (served_changes file.0 v queue.done head.request) (served_of turn after)
          → TurnsTo own turn (Served f v how) None (replied_to turn after) (served_changes file.0 v queue.done head.request) (served_of turn after)
      turns Hit here is = (refl, at, inl is)
      turns (Walk fetched) here is = (refl, at, inl is)
      turns (Hole fetched) here is = (refl, at, inl is)
      turns Range here is = absurd (no_range own v queue.done head.request after here)

      -- it was the last of the request or was not
      abbrev ServesOne : Outcome → Requests → Bool → Type 0
      ServesOne outcome new last =
          outcome ≡ plain (Served f v how) (if last then Some (record { f = f; id = head.id; end = end.Ok; done = queue.done + 1; request = after }) else None)
          → HasThen (if last then ended turn else record attached { queue = with_blocks after; done = queue.done + 1 }) new
          → ServesSo outcome (served_changes file.0 v queue.done head.request) new

      one : (outcome : Outcome) (new : Requests) → ServesOne outcome new (is_last turn)
      one outcome new told result =
          serves (plain (Served f v how) (replied_to turn after)) outcome (served_changes file.0 v queue.done head.request) (served_of turn after) new told (turns how reached is_served) result

      -- the last block of a request
      pub serves_last : block_count head.request ≤ queue.done + 1 → (outcome : Outcome) (new : Requests) → outcome ≡ ended_as (Served f v how) end.Ok (queue.done + 1) after
          → new.queue ≡ record queue { requests = rest; done = 0 } → new.waiting ≡ None → ServesSo outcome (served_changes file.0 v queue.done head.request) new
      serves_last last outcome new told new_is waits =
          subst (ServesOne outcome new) (passes (block_count head.request) (queue.done + 1) last) (one outcome new) told (has_then rest 0 None new new_is waits)

      -- and any other
      pub serves_more : queue.done + 1 < block_count head.request → (outcome : Outcome) (new : Requests) → outcome ≡ plain (Served f v how) None
          → new.queue ≡ record queue { requests = with_blocks after; done = queue.done + 1 } → new.waiting ≡ None → ServesSo outcome (served_changes file.0 v queue.done head.request) new
      serves_more more outcome new told new_is waits =
          subst (ServesOne outcome new) (fails (block_count head.request) (queue.done + 1) more) (one outcome new) told (has_then (with_blocks after) (queue.done + 1) None new new_is waits)
