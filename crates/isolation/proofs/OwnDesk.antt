-- Blocks that are a file's own, through what the function does.
use Rattle.std.proofs.Common.{◌≡◌, ◌≢◌, ◌⊎◌, ℕ, ◌+◌, ◌<◌, ◌≤◌, inl, inr, leb-true, List, [], ◌∷◌, ◌++◌, length, slice_get, slice_set, Option, Some, None, refl, sym, ap, ◌∙◌, subst, ⊎_elim, arith}
use Rattle.std.specs.List.{AllByRecursion}
use Rattle.std.proofs.lemmas.Bool.{cases_eq, cond_both}
use Rattle.std.proofs.lemmas.List.{length-set}
use Rattle.std.proofs.lemmas.Option.{none-some, same_Some, slice_get_within}
use Rattle.nesc_base.specs.declared.block.Block.{Block}
use Rattle.nesc_base.specs.Files.{File}
use Rattle.nesc_base.specs.declared.numbers.FnNo.{FnNo}
use Rattle.nesc_base.proofs.Differing.{slice_get-set_other, slice_get-set_same}
use Rattle.nesc_requests.specs.Requests.{block_count, first_of}
use Rattle.nesc_requests.specs.declared.request.End.TheVariants as end
use Rattle.nesc_requests.specs.declared.request.Queued.{Queued}
use Rattle.nesc_requests.specs.declared.request.Reply.{Reply}
use Rattle.nesc_requests.specs.declared.request.Request.{Request}
use Rattle.nesc_requests.specs.declared.request.Request.TheVariants.{Flush, Read, Write}
use Rattle.file_model.specs.Files.{Change}
use Rattle.plain_machine.specs.Functions.{Attached, Function}
use Rattle.plain_machine.specs.Handlings.{HandlesSo, ready}
use Rattle.plain_machine.specs.Submissions.{with_request}
use Rattle.plain_machine.specs.Ticks.{FailsToRead, IsTurn, Reaches, ServesBlock, Turn, TurnsTo, ended, is_last, replied_to, reply_of, served_changes, served_of}
use Rattle.plain_machine.specs.declared.outcome.Answer.{Answer}
use Rattle.plain_machine.specs.declared.outcome.Answer.TheVariants.{Flushed, Missed, Served}
use Rattle.plain_machine.specs.declared.outcome.Handled.{Handled}
use Rattle.plain_machine.specs.declared.outcome.Handled.TheVariants as handled
use Rattle.plain_machine.specs.declared.outcome.How.{How}
use Rattle.plain_machine.specs.declared.outcome.How.TheVariants.{Hit, Hole, Range, Walk}
use Rattle.isolation.specs.History.{OwnEvent}
use Rattle.isolation.specs.Laws.{AreOwn, IsOwn, TellsOwn}
use Rattle.isolation.specs.Solo.{function_at_desk, told_by}
use Rattle.isolation.proofs.OwnFile.{HoldsOwn, PutsOwn, own_holding, own_index, own_read}

module _ (file : Option File) (events : List OwnEvent) where
  -- the blocks of a write
  abbrev pub WritesOwn : Request → Type 0
  WritesOwn (Write first from) = AreOwn file events first from
  WritesOwn request = Unit {0}

  -- what was read for a request of which so many blocks are done
  abbrev pub HasReadOwn : ℕ → Request → Type 0
  HasReadOwn done (Read first into) = (k : ℕ) (block : Block) → k < done → slice_get into k ≡ Some block → IsOwn file events (first + k) block
  HasReadOwn done request = Unit {0}

  abbrev pub WaitsWithOwn : Queued → Type 0
  WaitsWithOwn queued = WritesOwn queued.request

  -- what was read for the first; none is done where there is none
  abbrev pub FirstHasReadOwn : ℕ → List Queued → Type 0
  FirstHasReadOwn done [] = done ≡ 0
  FirstHasReadOwn done (head ∷ rest) = HasReadOwn done head.request

  -- the blocks that the function has at its desk
  pub record HasOwn (desk : Attached) : Type 0 where
    pub writes : AllByRecursion WaitsWithOwn desk.queue
    pub read : FirstHasReadOwn desk.done desk.queue

  abbrev pub HasOwnIn : Option Attached → Type 0
  HasOwnIn None = Unit {0}
  HasOwnIn (Some desk) = HasOwn desk

  abbrev TellsOwnIn : Option Reply → Type 0
  TellsOwnIn reply = AllByRecursion (TellsOwn file events) (told_by reply)

  -- Requests

  none_read : (request : Request) → HasReadOwn 0 request
  none_read (Read first into) = λ k block less is. absurd (omega (arith, less))
  none_read (Write first from) = tt
  none_read Flush = tt

  none_read_first : (queue : List Queued) → FirstHasReadOwn 0 queue
  none_read_first [] = refl
  none_read_first (head ∷ rest) = none_read head.request

  -- one more waits
  pub own_request : (desk : Attached) (id : ℕ) (request : Request) → WritesOwn request → HasOwn desk → HasOwn (with_request desk id request)
  own_request desk id request writes own = record { writes = writes_more desk.queue own.writes; read = read_more desk.done desk.queue own.read }
    where
      writes_more : (queue : List Queued) → AllByRecursion WaitsWithOwn queue → AllByRecursion WaitsWithOwn (queue ++ (record { id = id; request = request }) ∷ [])
      writes_more [] all = (writes, tt)
      writes_more (head ∷ rest) all = (all.0, writes_more rest all.1)

      read_more : (done : ℕ) (queue : List Queued) → FirstHasReadOwn done queue → FirstHasReadOwn done (queue ++ (record { id = id; request = request }) ∷ [])
      read_more done [] none = subst (λ (done : ℕ). HasReadOwn done request) (sym none) (none_read request)
      read_more done (head ∷ rest) read = read

  -- Turns

  -- the first request of a turn and the rest
  record TurnsWithOwn (turn : Turn) : Type 0 where
    has : HasOwn turn.attached
    writes : WritesOwn turn.head.request
    others : AllByRecursion WaitsWithOwn turn.rest
    read : HasReadOwn turn.attached.done turn.head.request

  own_turn : (f : FnNo) (desk : Attached) (turn : Turn) → IsTurn f (function_at_desk desk) turn → HasOwn desk → TurnsWithOwn turn
  own_turn f desk turn is own =
      let has : HasOwn turn.attached = subst HasOwn (same_Some desk turn.attached is.on) own in
      let writes = subst (AllByRecursion WaitsWithOwn) is.queue has.writes in
      record { has = has; writes = writes.0; others = writes.1; read = subst (FirstHasReadOwn turn.attached.done) is.queue has.read }

  own_ended : (turn : Turn) → TurnsWithOwn turn → HasOwn (ended turn)
  own_ended turn own = record { writes = own.others; read = none_read_first turn.rest }

  -- one more block was read
  read_one : (first done : ℕ) (into : List Block) (block : Block) → IsOwn file events (first + done) block → HasReadOwn done (Read first into)
      → HasReadOwn (done + 1) (Read first (slice_set into done block))
  read_one first done into block own read k other less there =
      ⊎_elim (λ (here : k ≡ done).
      let within : done < length into = omega (arith, here, slice_get_within (slice_set into done block) k other there, length-set into done block) in
      let same = same_Some block other (sym (slice_get-set_same into done block within) ∙ sym (ap (slice_get (slice_set into done block)) here) ∙ there) in
      subst (IsOwn file events (first + k)) same (subst (λ (at : ℕ). IsOwn file events (first + at) block) (sym here) own))
      (λ (apart : k ≢ done).
      let before : k < done = omega (arith, less, apart) in
      read k other before (sym (slice_get-set_other into done k block apart) ∙ there)) (cases_eq k done)

  -- what is so of a request after one more block was served, and of what that changes
  record ServesOwn (n : ℕ) (done : ℕ) (before after : Request) : Type 0 where
    writes : WritesOwn after
    read : HasReadOwn (done + 1) after
    puts : AllByRecursion (PutsOwn file events) (served_changes n (first_of before + done) done before)
    as_many : block_count after ≡ block_count before

  own_block : (now : File) (n done : ℕ) (at : ℕ) (into : List Block) (block : Block) (after : Request) → after ≡ Read at (slice_set into done block)
      → IsOwn file events (at + done) block → HasReadOwn done (Read at into) → ServesOwn n done (Read at into) after
  own_block now n done at into block after is own read =
      subst (ServesOwn n done (Read at into)) (sym is)
      (record { writes = tt; read = read_one at done into block own read; puts = tt; as_many = length-set into done block })

  own_put : (n done : ℕ) (at : ℕ) (from : List Block) (after : Request) → after ≡ Write at from → WritesOwn (Write at from)
      → ServesOwn n done (Write at from) after
  own_put n done at from after is own =
      subst (ServesOwn n done (Write at from)) (sym is)
      (record { writes = own; read = tt; puts = (own_index file events at done from own, tt); as_many = refl })

  own_served : (now : File) (n done : ℕ) (before : Request) (how : How) (after : Request) → HoldsOwn file events now.body → WritesOwn before
      → HasReadOwn done before → Reaches now (first_of before + done) done before how after → ServesOwn n done before after
  own_served now n done (Read at into) Hit after own writes read reaches =
      own_block now n done at into _ after reaches.1 (own_read file events now (at + done) own) read
  own_served now n done (Read at into) (Walk fetched) after own writes read reaches =
      own_block now n done at into _ after reaches.1 (own_read file events now (at + done) own) read
  own_served now n done (Read at into) (Hole fetched) after own writes read reaches =
      own_block now n done at into _ after reaches.1 (inl refl) read
  own_served now n done (Write at from) Hit after own writes read reaches = own_put n done at from after reaches.1 writes
  own_served now n done (Write at from) (Walk fetched) after own writes read reaches = own_put n done at from after reaches.1 writes
  own_served now n done before how after own writes read reaches = absurd reaches

  -- the reply with the last block tells what was read
  own_told : (turn : Turn) (request : Request) → HasReadOwn (turn.attached.done + 1) request → block_count request ≤ turn.attached.done + 1
      → TellsOwnIn (Some (reply_of turn end.Ok (turn.attached.done + 1) request))
  own_told turn (Read at into) read all =
      (λ k block there. read k block (omega (arith, all, slice_get_within into k block there)) there, tt)
  own_told turn (Write at from) read all = (λ k block there. absurd (none-some block there), tt)
  own_told turn Flush read all = (λ k block there. absurd (none-some block there), tt)

  -- what a turn leaves
  pub record LeavesOwn (reply : Option Reply) (changes : List Change) (later : Attached) : Type 0 where
    pub puts : AllByRecursion (PutsOwn file events) changes
    pub has : HasOwn later
    pub tells : TellsOwnIn reply

  own_replied : (turn : Turn) (request : Request) (n : ℕ) → TurnsWithOwn turn → ServesOwn n turn.attached.done turn.head.request request
      → TellsOwnIn (replied_to turn request)
  own_replied turn request n own serves =
      cond_both (is_last turn) _ _ TellsOwnIn
      (λ last.
      let all : block_count request ≤ turn.attached.done + 1 = omega (arith, serves.as_many, leb-true _ _ last) in
      own_told turn request serves.read all)
      (λ _. tt)

  own_later : (turn : Turn) (request : Request) (n : ℕ) → TurnsWithOwn turn → ServesOwn n turn.attached.done turn.head.request request
      → HasOwn (served_of turn request)
  own_later turn request n own serves =
      cond_both (is_last turn) _ _ HasOwn (λ _. own_ended turn own) (λ _. record { writes = (serves.writes, own.others); read = serves.read })

  -- a request that ends without its blocks tells none
  own_end : (turn : Turn) (reply : Option Reply) (changes : List Change) (later : Attached) → TurnsWithOwn turn → TellsOwnIn reply → changes ≡ [] → later ≡ ended turn
      → LeavesOwn reply changes later
  own_end turn reply changes later own tells none is = record {
    puts = subst (AllByRecursion (PutsOwn file events)) (sym none) tt;
    has = subst HasOwn (sym is) (own_ended turn own);
    tells = tells;
  }

  module _ (now : File) (holds : HoldsOwn file events now.body) (turn : Turn) (own : TurnsWithOwn turn) (after : Option ℕ) (reply : Option Reply)
      (changes : List Change) (later : Attached) where
    own_reached : (how : How) → ServesBlock now turn how after reply changes later ⊎ FailsToRead now turn how after reply changes later
        → LeavesOwn reply changes later
    own_reached how (inl serves) =
        let n = turn.attached.file in
        let one = own_served now n turn.attached.done turn.head.request how serves.request holds own.writes own.read serves.reaches in record {
          puts = subst (AllByRecursion (PutsOwn file events)) (sym serves.puts) one.puts;
          has = subst HasOwn (sym serves.result) (own_later turn serves.request n own one);
          tells = subst TellsOwnIn (sym serves.replies) (own_replied turn serves.request n own one);
        }
    own_reached how (inr fails) = own_end turn reply changes later own (subst TellsOwnIn (sym fails.replies) (tt, tt)) fails.unchanged fails.result

    own_turned : (answer : Answer) → TurnsTo now turn answer after reply changes later → LeavesOwn reply changes later
    own_turned (Flushed f) turns =
        own_end turn reply changes later own (subst TellsOwnIn (sym turns.1.replies) (tt, tt)) turns.1.unchanged turns.1.result
    own_turned (Served f v Range) turns =
        own_end turn reply changes later own (subst TellsOwnIn (sym turns.2.replies) (tt, tt)) turns.2.unchanged turns.2.result
    own_turned (Served f v how) turns = own_reached how turns.2
    own_turned (Missed f miss fetched) turns = record {
      puts = subst (AllByRecursion (PutsOwn file events)) (sym turns.1.unchanged) tt;
      has = subst HasOwn (sym turns.1.result) (record { writes = own.has.writes; read = own.has.read });
      tells = subst TellsOwnIn (sym turns.1.silent) tt;
    }
    own_turned answer turns = absurd turns

  pub own_tick : (now : File) (f : FnNo) (desk : Attached) (turn : Turn) (answer : Answer) (after : Option ℕ) (reply : Option Reply) (changes : List Change)
      (later : Attached) → HoldsOwn file events now.body → HasOwn desk → IsTurn f (function_at_desk desk) turn → TurnsTo now turn answer after reply changes later
      → LeavesOwn reply changes later
  own_tick now f desk turn answer after reply changes later holds own is turns =
      own_turned now holds turn (own_turn f desk turn is own) after reply changes later answer turns

  -- Handlings

  own_ready : (desk attached : Attached) → desk ≡ attached → HasOwn desk → HasOwn (ready attached)
  own_ready desk attached same own =
      let has = subst HasOwn same own in record { writes = has.writes; read = has.read }

  module _ (now : File) (f : FnNo) (desk : Attached) (own : HasOwn desk) (reply : Option Reply) (changes : List Change) (later : Attached) where
    -- nothing is told and put, and this is left
    leaves_silent : (attached : Attached) → HasOwn attached → reply ≡ None → AllByRecursion (PutsOwn file events) changes
        → function_at_desk later ≡ record (function_at_desk desk) { attached = Some attached } → LeavesOwn reply changes later
    leaves_silent attached has silent puts is = record {
      puts = puts;
      has = subst HasOwn (sym (same_Some later attached (ap (λ (function : Function). function.attached) is))) has;
      tells = subst TellsOwnIn (sym silent) tt;
    }

    pub own_handling : (did : Handled) → HandlesSo now f (function_at_desk desk) did reply changes (function_at_desk later) → LeavesOwn reply changes later
    own_handling handled.None handles =
        leaves_silent desk own handles.1 (subst (AllByRecursion (PutsOwn file events)) (sym handles.2) tt) handles.3
    own_handling handled.Built handles =
        leaves_silent (ready handles.attached) (own_ready desk handles.attached (same_Some desk handles.attached handles.on) own) handles.silent
        (subst (AllByRecursion (PutsOwn file events)) (sym handles.unchanged) tt) handles.result
    own_handling (handled.Held count) handles =
        leaves_silent (ready handles.attached) (own_ready desk handles.attached (same_Some desk handles.attached handles.on) own) handles.silent
        (subst (AllByRecursion (PutsOwn file events)) (sym handles.holds) (own_holding file events _ _)) handles.result
    own_handling handled.NoSpace handles =
        let turn = handles.turn in
        let left = own_ended turn (own_turn f desk turn handles.is own) in record {
          puts = subst (AllByRecursion (PutsOwn file events)) (sym handles.unchanged) tt;
          has = subst HasOwn (sym (same_Some later (ready (ended turn)) (ap (λ (function : Function). function.attached) handles.result)))
              (record { writes = left.writes; read = left.read });
          tells = subst TellsOwnIn (sym handles.replies) (tt, tt);
        }
