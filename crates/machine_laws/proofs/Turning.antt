-- What a turn comes to.
use Rattle.std.proofs.Common.{◌≡◌, ℕ, ◌-◌, ◌<◌, nat_lt, le-ltb, lt-ltb, ltb-false, ltb-true, if◌then◌else◌, Bool, true, false, List, [], ◌∷◌, slice_index_or, slice_set, Option, None, Some, inl, inr, refl, sym, ap, ◌∙◌}
use Rattle.std.proofs.lemmas.Bool.{cond-false, cond-true, cond_both, false≢true}
use Rattle.nesc_base.specs.Block.{zero_block}
use Rattle.nesc_base.specs.Files.{File, Files, file_at}
use Rattle.nesc_base.specs.declared.numbers.FnNo.{FnNo}
use Rattle.nesc_requests.specs.Requests.{block_count, is_flush}
use Rattle.nesc_requests.specs.declared.request.End.TheVariants as end
use Rattle.nesc_requests.specs.declared.request.Kind.{Kind}
use Rattle.nesc_requests.specs.declared.request.Kind.TheVariants.{Pruned, Unmapped}
use Rattle.nesc_requests.specs.declared.request.Miss.{Miss}
use Rattle.nesc_requests.specs.declared.request.Queued.{Queued}
use Rattle.nesc_requests.specs.declared.request.Reply.{Reply}
use Rattle.nesc_requests.specs.declared.request.Request.{Request}
use Rattle.nesc_requests.specs.declared.request.Request.TheVariants.{Read, Write, Flush}
use Rattle.file_model.specs.Files.{Change, holds, read}
use Rattle.plain_machine.specs.Functions.{Attached, Function}
use Rattle.plain_machine.specs.Given.{Way, cached, clock_of, is_failed_read, leaf_of, pruned, walked, way_by, way_missed, way_of}
use Rattle.plain_machine.specs.Ticks.{EndsPast, FailsToRead, Flushes, IsOnDisk, IsTurn, MayWait, Reaches, ServesBlock, Turn, TurnsTo, WaitsForBlock, ended, is_last, is_read, next_block, replied_to, reply_of, served_changes, served_of}
use Rattle.plain_machine.specs.declared.outcome.Answer.{Answer}
use Rattle.plain_machine.specs.declared.outcome.Answer.TheVariants.{Flushed, Missed, Served}
use Rattle.plain_machine.specs.declared.outcome.How.{How}
use Rattle.plain_machine.specs.declared.outcome.How.TheVariants.{Hit, Hole, Range, Walk}
use Rattle.machine_laws.proofs.Leading.{CanLead, can_put}
use Rattle.machine_laws.proofs.Outcomes.{Given, given_with, nothing_given}

-- Whose turn it is

abbrev pub turn_with : FnNo → Attached → List Queued → Option Turn
turn_with f attached [] = None
turn_with f attached (head ∷ rest) = Some (record { f = f; attached = attached; head = head; rest = rest })

abbrev pub turn_at : FnNo → Option Attached → Option Turn
turn_at f None = None
turn_at f (Some attached) = turn_with f attached attached.queue

-- the turn of a function, if it has a request
abbrev pub turn_of : FnNo → Function → Option Turn
turn_of f function = turn_at f function.attached

pub turn_of-Some : (f : FnNo) (function : Function) (turn : Turn) → IsTurn f function turn → turn_of f function ≡ Some turn
turn_of-Some f function turn is =
    ap (turn_at f) is.on ∙ ap (turn_with f turn.attached) is.queue ∙ (λ i. Some (record turn { f = sym is.takes i }))

-- What it comes to with what is given

pub record Turned : Type 0 where
  pub answer : Answer
  pub after : Option ℕ
  pub reply : Option Reply
  pub changes : List Change
  pub later : Attached

-- the request is a flush
abbrev pub flushed : Turn → ℕ → Turned
flushed turn clock = record {
  answer = Flushed turn.f;
  after = Some clock;
  reply = Some (reply_of turn (end.Flushed clock) 0 turn.head.request);
  changes = [];
  later = ended turn;
}

-- the block is at or past the length
abbrev pub past : Turn → Turned
past turn = record {
  answer = Served turn.f (next_block turn) Range;
  after = None;
  reply = Some (reply_of turn end.Range turn.attached.done turn.head.request);
  changes = [];
  later = ended turn;
}

-- a block is served, and this is the request after it
abbrev pub served : Turn → How → Request → Turned
served turn how request = record {
  answer = Served turn.f (next_block turn) how;
  after = None;
  reply = replied_to turn request;
  changes = served_changes turn.attached.file (next_block turn) turn.attached.done turn.head.request;
  later = served_of turn request;
}

-- a block that is held cannot be read
abbrev pub failed : Turn → How → Turned
failed turn how = record {
  answer = Served turn.f (next_block turn) how;
  after = None;
  reply = Some (reply_of turn end.Media turn.attached.done turn.head.request);
  changes = [];
  later = ended turn;
}

abbrev pub miss_of : Turn → Kind → Miss
miss_of turn kind = record { v = next_block turn; n = block_count turn.head.request - turn.attached.done; kind = kind }

-- the request cannot go on
abbrev pub waiting : Turn → Kind → ℕ → Turned
waiting turn kind fetched = record {
  answer = Missed turn.f (miss_of turn kind) fetched;
  after = None;
  reply = None;
  changes = [];
  later = record turn.attached { waiting = Some (miss_of turn kind) };
}

-- The block is below the length, and held. A flush comes to no block.
abbrev pub reached_held : File → Turn → How → Bool → Request → Turned
reached_held file turn how false (Read at into) = served turn how (Read at (slice_set into turn.attached.done (read file (next_block turn))))
reached_held file turn how true (Read at into) = failed turn how
reached_held file turn how fails (Write at from) = served turn how (Write at from)
reached_held file turn how fails Flush = past turn

-- it is not held
abbrev pub reached_unheld : Turn → ℕ → Request → Turned
reached_unheld turn fetched (Read at into) = served turn (Hole fetched) (Read at (slice_set into turn.attached.done zero_block))
reached_unheld turn fetched (Write at from) = waiting turn Unmapped fetched
reached_unheld turn fetched Flush = past turn

-- It is looked for in this way, a read of it fails or not, and it is held or not. The cache has only blocks that are held.
abbrev pub reached : File → Turn → Way → Bool → Bool → Request → Turned
reached file turn (pruned fetched) fails held request = waiting turn Pruned fetched
reached file turn cached fails true request = reached_held file turn Hit fails request
reached file turn cached fails false request = past turn
reached file turn (walked fetched) fails true request = reached_held file turn (Walk fetched) fails request
reached file turn (walked fetched) fails false request = reached_unheld turn fetched request

-- the request is a flush, or has blocks
abbrev pub turned_by : File → Turn → Given → Bool → Turned
turned_by file turn given true = flushed turn given.clock
turned_by file turn given false =
    if nat_lt (next_block turn) file.length
    then reached file turn given.way given.failed_read (holds file (next_block turn)) turn.head.request
    else past turn

abbrev pub turned : File → Turn → Given → Turned
turned file turn given = turned_by file turn given (is_flush turn.head.request)

-- It comes to nothing else

module _ (file : File) (turn : Turn) where
  -- where a block is below the length
  turned_below : (given : Given) → is_flush turn.head.request ≡ false → next_block turn < file.length
      → turned file turn given ≡ reached file turn given.way given.failed_read (holds file (next_block turn)) turn.head.request
  turned_below given for_blocks below = ap (turned_by file turn given) for_blocks ∙ cond-true _ _ _ (lt-ltb _ _ below)

  reached_by : (way : Way) (fails held : Bool) (request : Request) → holds file (next_block turn) ≡ held
      → reached file turn way fails (holds file (next_block turn)) request ≡ reached file turn way fails held request
  reached_by way fails held request is = ap (λ b. reached file turn way fails b request) is

  reaches_one : (request : Request) (how : How) (after : Request) → Reaches file (next_block turn) turn.attached.done request how after
      → (is_flush request ≡ false) × (served turn how after ≡ reached file turn (way_by how) false (holds file (next_block turn)) request)
  reaches_one (Read at into) Hit after reaches =
      (refl, ap (served turn Hit) reaches.1 ∙ sym (reached_by cached false true (Read at into) reaches.0))
  reaches_one (Read at into) (Walk fetched) after reaches =
      (refl, ap (served turn (Walk fetched)) reaches.1 ∙ sym (reached_by (walked fetched) false true (Read at into) reaches.0))
  reaches_one (Read at into) (Hole fetched) after reaches =
      (refl, ap (served turn (Hole fetched)) reaches.1 ∙ sym (reached_by (walked fetched) false false (Read at into) reaches.0))
  reaches_one (Write at from) Hit after reaches =
      (refl, ap (served turn Hit) reaches.1 ∙ sym (reached_by cached false true (Write at from) reaches.0))
  reaches_one (Write at from) (Walk fetched) after reaches =
      (refl, ap (served turn (Walk fetched)) reaches.1 ∙ sym (reached_by (walked fetched) false true (Write at from) reaches.0))
  reaches_one request how after reaches = absurd reaches

  fails_one : (request : Request) (how : How) → is_read request ≡ true → IsOnDisk how → holds file (next_block turn) ≡ true
      → (is_flush request ≡ false) × (failed turn how ≡ reached file turn (way_by how) true (holds file (next_block turn)) request)
  fails_one (Read at into) Hit reads on held = (refl, sym (reached_by cached true true (Read at into) held))
  fails_one (Read at into) (Walk fetched) reads on held = (refl, sym (reached_by (walked fetched) true true (Read at into) held))
  fails_one (Read at into) how reads on held = absurd on
  fails_one request how reads on held = absurd (false≢true reads)

  waits_one : (request : Request) (kind : Kind) (fetched : ℕ) (fails : Bool) → MayWait file (next_block turn) request kind
      → (is_flush request ≡ false) × (waiting turn kind fetched ≡ reached file turn (way_missed kind fetched) fails (holds file (next_block turn)) request)
  waits_one request Pruned fetched fails why = (why, refl)
  waits_one (Write at from) Unmapped fetched fails why = (refl, sym (reached_by (walked fetched) fails false (Write at from) why.1))
  waits_one request Unmapped fetched fails why = absurd (false≢true why.0)

  -- a request that goes on, or ends with its last block, was read
  replied_read : (request : Request) → is_failed_read (replied_to turn request) ≡ false
  replied_read request = cond_both (is_last turn) _ _ (λ (reply : Option Reply). is_failed_read reply ≡ false) (λ _. refl) (λ _. refl)

module _ (file : File) (turn : Turn) (f : FnNo) (after : Option ℕ) (reply : Option Reply) (changes : List Change) (later : Attached) (same : f ≡ turn.f) where
  -- it ends so with this answer
  abbrev turned_with : Answer → Turned
  turned_with answer = record { answer = answer; after = after; reply = reply; changes = changes; later = later }

  flushed_one : Flushes turn after reply changes later → turned_with (Flushed f) ≡ turned file turn (given_with (Flushed f) reply after)
  flushed_one flushes =
      (λ i. record { answer = Flushed (same i); after = flushes.commits i; reply = flushes.replies i; changes = flushes.unchanged i; later = flushes.result i })
      ∙ ap (flushed turn) (sym (ap clock_of flushes.commits))
      ∙ sym (ap (turned_by file turn (given_with (Flushed f) reply after)) flushes.asked)

  past_one : (v : ℕ) → v ≡ next_block turn → EndsPast file turn after reply changes later
      → turned_with (Served f v Range) ≡ turned file turn (given_with (Served f v Range) reply after)
  past_one v there ends =
      (λ i. record { answer = Served (same i) (there i) Range; after = ends.no_commit i; reply = ends.replies i; changes = ends.unchanged i; later = ends.result i })
      ∙ sym (ap (turned_by file turn (given_with (Served f v Range) reply after)) ends.for_blocks ∙ cond-false _ _ _ (le-ltb _ _ ends.past))

  served_one : (v : ℕ) (how : How) → v ≡ next_block turn → ServesBlock file turn how after reply changes later
      → turned_with (Served f v how) ≡ turned file turn (given_with (Served f v how) reply after)
  served_one v how there serves =
      let one = reaches_one file turn turn.head.request how serves.request serves.reaches in
      let could = ap is_failed_read serves.replies ∙ replied_read file turn serves.request in
      let block = next_block turn in
      (λ i. record { answer = Served (same i) (there i) how; after = serves.no_commit i; reply = serves.replies i; changes = serves.puts i; later = serves.result i })
      ∙ one.1
      ∙ sym (turned_below file turn (given_with (Served f v how) reply after) one.0 serves.below
      ∙ ap (λ b. reached file turn (way_by how) b (holds file block) turn.head.request) could)

  failed_one : (v : ℕ) (how : How) → v ≡ next_block turn → FailsToRead file turn how after reply changes later
      → turned_with (Served f v how) ≡ turned file turn (given_with (Served f v how) reply after)
  failed_one v how there fails =
      let one = fails_one file turn turn.head.request how fails.read fails.on_disk fails.held in
      let block = next_block turn in
      (λ i. record { answer = Served (same i) (there i) how; after = fails.no_commit i; reply = fails.replies i; changes = fails.unchanged i; later = fails.result i })
      ∙ one.1
      ∙ sym (turned_below file turn (given_with (Served f v how) reply after) one.0 fails.below
      ∙ ap (λ b. reached file turn (way_by how) b (holds file block) turn.head.request) (ap is_failed_read fails.replies))

  missed_one : (miss : Miss) (fetched : ℕ) → WaitsForBlock file turn miss after reply changes later
      → turned_with (Missed f miss fetched) ≡ turned file turn (given_with (Missed f miss fetched) reply after)
  missed_one miss fetched waits =
      let one = waits_one file turn turn.head.request miss.kind fetched (is_failed_read reply) waits.why in
      let is : miss ≡ miss_of turn miss.kind = λ i. record { v = waits.at i; n = waits.as_many i; kind = miss.kind } in
      let result = waits.result ∙ (λ i. record turn.attached { waiting = Some (is i) }) in
      (λ i. record { answer = Missed (same i) (is i) fetched; after = waits.no_commit i; reply = waits.silent i; changes = waits.unchanged i; later = result i })
      ∙ one.1
      ∙ sym (turned_below file turn (given_with (Missed f miss fetched) reply after) one.0 waits.below)

pub turned_one : (file : File) (turn : Turn) (answer : Answer) (after : Option ℕ) (reply : Option Reply) (changes : List Change) (later : Attached)
    → TurnsTo file turn answer after reply changes later
    → record { answer = answer; after = after; reply = reply; changes = changes; later = later } ≡ turned file turn (given_with answer reply after)
turned_one file turn (Flushed f) after reply changes later turns = flushed_one file turn f after reply changes later turns.0 turns.1
turned_one file turn (Served f v Range) after reply changes later turns = past_one file turn f after reply changes later turns.0 v turns.1 turns.2
turned_one file turn (Served f v how) after reply changes later turns =
    elim turns.2 [
      | inl serves ↦ served_one file turn f after reply changes later turns.0 v how turns.1 serves
      | inr fails ↦ failed_one file turn f after reply changes later turns.0 v how turns.1 fails
    ]
turned_one file turn (Missed f miss fetched) after reply changes later turns =
    missed_one file turn f after reply changes later turns.0 miss fetched turns.1
turned_one file turn answer after reply changes later turns = absurd turns

-- And it does come to that

pub record CanTurn (files : Files) (turn : Turn) (to : Turned) : Type 0 where
  pub turns : TurnsTo (file_at files turn.attached.file) turn to.answer to.after to.reply to.changes to.later
  pub walks : way_of to.answer ≡ walked 0
  pub no_leaf : leaf_of to.answer ≡ None
  pub leads : CanLead files to.changes

-- the turn with this first request
abbrev asking : Turn → Request → Turn
asking turn request = record turn { head = record turn.head { request = request } }

module _ (files : Files) (turn : Turn) where
  -- the file of the function
  abbrev turned_file : File
  turned_file = file_at files turn.attached.file

  reached_turns : (held : Bool) (request : Request) → is_flush request ≡ false → next_block (asking turn request) < turned_file.length
      → holds turned_file (next_block (asking turn request)) ≡ held
      → CanTurn files (asking turn request) (reached turned_file (asking turn request) (walked 0) false held request)
  reached_turns true (Read at into) for_blocks below held = record {
    turns = (refl, refl, inl (record { below = below; request = _; reaches = (held, refl); no_commit = refl; puts = refl; replies = refl; result = refl }));
    walks = refl;
    no_leaf = refl;
    leads = (files, refl);
  }
  reached_turns false (Read at into) for_blocks below unheld = record {
    turns = (refl, refl, inl (record { below = below; request = _; reaches = (unheld, refl); no_commit = refl; puts = refl; replies = refl; result = refl }));
    walks = refl;
    no_leaf = refl;
    leads = (files, refl);
  }
  reached_turns true (Write at from) for_blocks below held =
      let block = slice_index_or from turn.attached.done zero_block in
      let n = turn.attached.file in
      let put = can_put files n (next_block (asking turn (Write at from))) block held in record {
        turns = (refl, refl, inl (record { below = below; request = _; reaches = (held, refl); no_commit = refl; puts = refl; replies = refl; result = refl }));
        walks = refl;
        no_leaf = refl;
        leads = (put.0, (put.0, put.1, refl));
      }
  reached_turns false (Write at from) for_blocks below unheld = record {
    turns = (refl, record { below = below; why = (refl, unheld); at = refl; as_many = refl; no_commit = refl; unchanged = refl; silent = refl; result = refl });
    walks = refl;
    no_leaf = refl;
    leads = (files, refl);
  }
  reached_turns held Flush for_blocks below is = absurd (false≢true (sym for_blocks))

  turned_turns_by : (flush : Bool) → is_flush turn.head.request ≡ flush → CanTurn files turn (turned_by turned_file turn nothing_given flush)
  turned_turns_by true asked = record {
    turns = (refl, record { asked = asked; clock = 0; commits = refl; unchanged = refl; replies = refl; result = refl });
    walks = refl;
    no_leaf = refl;
    leads = (files, refl);
  }
  turned_turns_by false for_blocks =
      cond_both (nat_lt (next_block turn) turned_file.length) _ _ (CanTurn files turn)
      (λ below. reached_turns (holds turned_file (next_block turn)) turn.head.request for_blocks (ltb-true _ _ below) refl)
      (λ beyond. record {
        turns = (refl, refl, record { for_blocks = for_blocks; past = ltb-false _ _ beyond; no_commit = refl; unchanged = refl; replies = refl; result = refl });
        walks = refl;
        no_leaf = refl;
        leads = (files, refl);
      })

  pub turned_turns : CanTurn files turn (turned turned_file turn nothing_given)
  turned_turns = turned_turns_by (is_flush turn.head.request) refl
