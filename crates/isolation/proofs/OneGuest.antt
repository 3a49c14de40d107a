-- One guest alone, by hand: a file of ten blocks is made and given to it; it writes block 3, reads three blocks from 2 on, and
-- flushes. The run is one of the machine of one file and one function, and these are its lines.
use Rattle.std.proofs.Common.{◌≡◌, ◌≢◌, ℕ, false, not, cond, List, [], ◌∷◌, filter, take, nat_lt, Some, None, is_some, unwrap_or, inl, refl, sym, ap, ◌∙◌, arith}
use Rattle.std.specs.FinMap.{empty, get, get-empty, insert}
use Rattle.std.specs.Ordering.{nat_cmp}
use Rattle.nesc_base.specs.Block.{zero_block}
use Rattle.nesc_base.specs.Files.{Body, File}
use Rattle.nesc_base.specs.declared.block.Block.{Block}
use Rattle.nesc_base.specs.declared.numbers.FnNo.{FnNo}
use Rattle.nesc_base.proofs.Maps.{get-insert_other, get-insert_same}
use Rattle.nesc_requests.specs.declared.request.End.TheVariants as end
use Rattle.nesc_requests.specs.declared.request.Kind.TheVariants.{Unmapped}
use Rattle.nesc_requests.specs.declared.request.Miss.{Miss}
use Rattle.nesc_requests.specs.declared.request.Queued.{Queued}
use Rattle.nesc_requests.specs.declared.request.Request.{Request}
use Rattle.nesc_requests.specs.declared.request.Request.TheVariants.{Flush, Read, Write}
use Rattle.file_model.specs.Files.{create, hold, holding, holds, put}
use Rattle.plain_machine.specs.Functions.{Attached, fresh}
use Rattle.plain_machine.specs.Groups.{flushed_at, ok}
use Rattle.plain_machine.specs.Ticks.{Turn, replied_to, reply_of}
use Rattle.plain_machine.specs.declared.outcome.Answer.TheVariants.{Flushed, Missed, Served}
use Rattle.plain_machine.specs.declared.outcome.Handled.TheVariants.{Held}
use Rattle.plain_machine.specs.declared.outcome.How.TheVariants.{Hole, Walk}
use Rattle.isolation.specs.History.{OwnEvent, OwnLine, asked, attached, changed, handled, kept, replied, ticked}
use Rattle.isolation.specs.Solo.{HandlesAlone, Solo, SoloRun, TicksAlone, opened}

-- the first function, and the first file
abbrev f : FnNo
f = record { 0 = 1 }

-- the block that is written, and the three that stand in the buffer of the read before
module _ (block one two three : Block) where
  -- Bodies

  -- block 3 is held, and is zeros
  abbrev held_body : Body
  held_body = insert empty 3 zero_block

  -- then it is the block that was written
  abbrev written_body : Body
  written_body = insert held_body 3 block

  -- nothing else is held than block 3
  none_at : (v : ℕ) → v ≢ 3 → get written_body v ≡ None
  none_at v apart = get-insert_other held_body 3 block v apart ∙ get-insert_other empty 3 zero_block v apart ∙ get-empty nat_cmp v

  -- Requests

  -- the write
  abbrev writes : Request
  writes = Write 3 (block ∷ [])

  -- the read, with its buffer as the guest brings it
  abbrev reads : Request
  reads = Read 2 (one ∷ two ∷ three ∷ [])

  -- with its first block read, with its second, and with its last
  abbrev reads_first : Request
  reads_first = Read 2 (zero_block ∷ two ∷ three ∷ [])

  abbrev reads_second : Request
  reads_second = Read 2 (zero_block ∷ block ∷ three ∷ [])

  abbrev reads_all : Request
  reads_all = Read 2 (zero_block ∷ block ∷ zero_block ∷ [])

  -- a request in the queue
  abbrev queued : ℕ → Request → Queued
  queued id request = record { id = id; request = request }

  -- what the function has, with these requests, so many blocks done
  abbrev with_queue : List Queued → ℕ → Attached
  with_queue queue done = record { file = 1; queue = queue; done = done; waiting = None }

  -- the queue of the flush, with the read before it, and with the write before that
  abbrev flush_last : List Queued
  flush_last = queued 3 Flush ∷ []

  abbrev read_next : List Queued
  read_next = queued 2 reads ∷ flush_last

  abbrev all_asked : List Queued
  all_asked = queued 1 writes ∷ read_next

  -- what it waits for
  abbrev miss : Miss
  miss = record { v = 3; n = 1; kind = Unmapped }

  -- States

  -- the file, with this body
  abbrev file_with : Body → File
  file_with body = record { name = 97 ∷ []; length = 10; body = body }

  -- the machine, where the file was not kept yet
  abbrev with_desk : Body → Attached → Solo
  with_desk body desk = record { now = Some (file_with body); last_kept = None; desk = Some desk }

  -- the file was made, and the function does not have it
  abbrev made : Solo
  made = record { now = Some (file_with empty); last_kept = None; desk = None }

  -- what the function has while it waits
  abbrev waits : Attached
  waits = record { file = 1; queue = all_asked; done = 0; waiting = Some miss }

  -- after its last event
  abbrev last : Solo
  last = record { now = Some (file_with written_body); last_kept = Some (file_with written_body); desk = Some (fresh 1) }

  -- The history, and its lines

  -- the turn of the flush, and its commit
  abbrev flushing : List OwnEvent
  flushing = ticked (Flushed f) (Some 14) false ∷ kept ∷ []

  -- the turns of the read, a block each, and those after it
  abbrev reading : List OwnEvent
  reading = ticked (Served f 2 (Hole 0)) None false ∷ ticked (Served f 3 (Walk 0)) None false ∷ ticked (Served f 4 (Hole 0)) None false ∷ flushing

  -- the miss of the write, its handling and its turn, and those after it
  abbrev writing : List OwnEvent
  writing = ticked (Missed f miss 0) None false ∷ handled (Held 1) ∷ ticked (Served f 3 (Walk 0)) None false ∷ reading

  -- all of it
  abbrev history : List OwnEvent
  history = changed (create 1 (97 ∷ []) 10) ∷ attached ∷ asked 1 writes ∷ asked 2 reads ∷ asked 3 Flush ∷ writing

  -- what the guest is told of each request, and of all
  abbrev wrote : OwnLine
  wrote = replied 3 (record { f = f; id = 1; end = ok 1 [] })

  abbrev has_read : OwnLine
  has_read = replied 2 (record { f = f; id = 2; end = ok 3 (zero_block ∷ block ∷ zero_block ∷ []) })

  abbrev flushed : OwnLine
  flushed = replied 0 (record { f = f; id = 3; end = flushed_at 14 })

  abbrev lines : List OwnLine
  lines = wrote ∷ has_read ∷ flushed ∷ []

  -- The turns

  -- a turn of this request before the rest, so many blocks done
  abbrev turn_at : Queued → List Queued → ℕ → Turn
  turn_at head rest done = record { f = f; attached = with_queue (head ∷ rest) done; head = head; rest = rest }

  -- the write misses block 3
  misses : TicksAlone f (with_desk empty (with_queue all_asked 0)) (Missed f miss 0) None false [] (with_desk empty waits)
  misses = record {
    desk = with_queue all_asked 0;
    on = refl;
    turn = turn_at (queued 1 writes) read_next 0;
    is = record { takes = refl; on = refl; queue = refl };
    answer = Missed f miss 0;
    is_line = refl;
    reply = None;
    changes = [];
    later = waits;
    turns = (
      refl,
      record {
        below = omega arith;
        why = (refl, ap is_some (get-empty nat_cmp 3));
        at = refl;
        as_many = refl;
        no_commit = refl;
        unchanged = refl;
        silent = refl;
        result = refl;
      },
    );
    fails = refl;
    told = refl;
    result = refl;
  }

  -- the new file does not hold block 3
  none_held : holds (file_with empty) 3 ≡ false
  none_held = ap is_some (get-empty nat_cmp 3)

  -- block 3 comes to be held
  comes_to_hold : HandlesAlone f (with_desk empty waits) (Held 1) [] (with_desk held_body (with_queue all_asked 0))
  comes_to_hold = record {
    desk = waits;
    on = refl;
    reply = None;
    changes = hold 1 (3 ∷ []) ∷ [];
    later = with_queue all_asked 0;
    handles = record {
      attached = waits;
      on = refl;
      miss = miss;
      waits = refl;
      unmapped = refl;
      holds = ap (λ b. holding 1 (take 1 (filter (λ at. nat_lt at 10) (cond (not b) (3 ∷ []) [])))) (sym none_held);
      silent = refl;
      result = refl;
    };
    told = refl;
    result = refl;
  }

  -- the write is served, and ends
  serves_write : TicksAlone f (with_desk held_body (with_queue all_asked 0)) (Served f 3 (Walk 0)) None false (wrote ∷ [])
      (with_desk written_body (with_queue read_next 0))
  serves_write = record {
    desk = with_queue all_asked 0;
    on = refl;
    turn = turn_at (queued 1 writes) read_next 0;
    is = record { takes = refl; on = refl; queue = refl };
    answer = Served f 3 (Walk 0);
    is_line = refl;
    reply = replied_to (turn_at (queued 1 writes) read_next 0) writes;
    changes = put 1 3 block ∷ [];
    later = with_queue read_next 0;
    turns = (
      refl,
      refl,
      inl (record {
        below = omega arith;
        request = writes;
        reaches = (ap is_some (get-insert_same empty 3 zero_block), refl);
        no_commit = refl;
        puts = refl;
        replies = refl;
        result = refl;
      }),
    );
    fails = refl;
    told = refl;
    result = refl;
  }

  -- the read meets a hole at block 2
  reads_hole : TicksAlone f (with_desk written_body (with_queue read_next 0)) (Served f 2 (Hole 0)) None false []
      (with_desk written_body (with_queue (queued 2 reads_first ∷ flush_last) 1))
  reads_hole = record {
    desk = with_queue read_next 0;
    on = refl;
    turn = turn_at (queued 2 reads) flush_last 0;
    is = record { takes = refl; on = refl; queue = refl };
    answer = Served f 2 (Hole 0);
    is_line = refl;
    reply = None;
    changes = [];
    later = with_queue (queued 2 reads_first ∷ flush_last) 1;
    turns = (
      refl,
      refl,
      inl (record {
        below = omega arith;
        request = reads_first;
        reaches = (ap is_some (none_at 2 (omega arith)), refl);
        no_commit = refl;
        puts = refl;
        replies = refl;
        result = refl;
      }),
    );
    fails = refl;
    told = refl;
    result = refl;
  }

  -- then the block that was written
  reads_written : TicksAlone f (with_desk written_body (with_queue (queued 2 reads_first ∷ flush_last) 1)) (Served f 3 (Walk 0)) None false []
      (with_desk written_body (with_queue (queued 2 reads_second ∷ flush_last) 2))
  reads_written = record {
    desk = with_queue (queued 2 reads_first ∷ flush_last) 1;
    on = refl;
    turn = turn_at (queued 2 reads_first) flush_last 1;
    is = record { takes = refl; on = refl; queue = refl };
    answer = Served f 3 (Walk 0);
    is_line = refl;
    reply = None;
    changes = [];
    later = with_queue (queued 2 reads_second ∷ flush_last) 2;
    turns = (
      refl,
      refl,
      inl (record {
        below = omega arith;
        request = reads_second;
        reaches = (
          ap is_some (get-insert_same held_body 3 block),
          λ i. Read 2 (zero_block ∷ unwrap_or (sym (get-insert_same held_body 3 block) i) zero_block ∷ three ∷ []),
        );
        no_commit = refl;
        puts = refl;
        replies = refl;
        result = refl;
      }),
    );
    fails = refl;
    told = refl;
    result = refl;
  }

  -- and a hole at block 4, and ends
  reads_last : TicksAlone f (with_desk written_body (with_queue (queued 2 reads_second ∷ flush_last) 2)) (Served f 4 (Hole 0)) None false (has_read ∷ [])
      (with_desk written_body (with_queue flush_last 0))
  reads_last = record {
    desk = with_queue (queued 2 reads_second ∷ flush_last) 2;
    on = refl;
    turn = turn_at (queued 2 reads_second) flush_last 2;
    is = record { takes = refl; on = refl; queue = refl };
    answer = Served f 4 (Hole 0);
    is_line = refl;
    reply = replied_to (turn_at (queued 2 reads_second) flush_last 2) reads_all;
    changes = [];
    later = with_queue flush_last 0;
    turns = (
      refl,
      refl,
      inl (record {
        below = omega arith;
        request = reads_all;
        reaches = (ap is_some (none_at 4 (omega arith)), refl);
        no_commit = refl;
        puts = refl;
        replies = refl;
        result = refl;
      }),
    );
    fails = refl;
    told = refl;
    result = refl;
  }

  -- the flush ends with the clock of its commit
  flushes : TicksAlone f (with_desk written_body (with_queue flush_last 0)) (Flushed f) (Some 14) false (flushed ∷ [])
      (with_desk written_body (with_queue [] 0))
  flushes = record {
    desk = with_queue flush_last 0;
    on = refl;
    turn = turn_at (queued 3 Flush) [] 0;
    is = record { takes = refl; on = refl; queue = refl };
    answer = Flushed f;
    is_line = refl;
    reply = Some (reply_of (turn_at (queued 3 Flush) [] 0) (end.Flushed 14) 0 Flush);
    changes = [];
    later = with_queue [] 0;
    turns = (refl, record { asked = refl; clock = 14; commits = refl; unchanged = refl; replies = refl; result = refl });
    fails = refl;
    told = refl;
    result = refl;
  }

  -- The run

  -- from the flush on
  run_flushing : SoloRun f 1 (with_desk written_body (with_queue flush_last 0)) flushing (flushed ∷ []) last
  run_flushing = (with_desk written_body (with_queue [] 0), flushed ∷ [], [], flushes, (last, [], [], (refl, refl), (refl, refl), refl), refl)

  -- from the read on
  run_reading : SoloRun f 1 (with_desk written_body (with_queue read_next 0)) reading (has_read ∷ flushed ∷ []) last
  run_reading =
      let second = with_desk written_body (with_queue (queued 2 reads_first ∷ flush_last) 1) in
      let third = with_desk written_body (with_queue (queued 2 reads_second ∷ flush_last) 2) in
      let fourth = with_desk written_body (with_queue flush_last 0) in
      let lines = has_read ∷ flushed ∷ [] in
      (second, [], lines, reads_hole, (third, [], lines, reads_written, (fourth, has_read ∷ [], flushed ∷ [], reads_last, run_flushing, refl), refl), refl)

  -- from the write on
  run_writing : SoloRun f 1 (with_desk empty (with_queue all_asked 0)) writing lines last
  run_writing =
      let second = with_desk empty waits in
      let third = with_desk held_body (with_queue all_asked 0) in
      let fourth = with_desk written_body (with_queue read_next 0) in
      let rest = has_read ∷ flushed ∷ [] in
      (second, [], lines, misses, (third, [], lines, comes_to_hold, (fourth, wrote ∷ [], rest, serves_write, run_reading, refl), refl), refl)

  -- all of it, from where there is no file
  pub one_guest : SoloRun f 1 (opened None) history lines last
  one_guest =
      let second = with_desk empty (fresh 1) in
      let third = with_desk empty (with_queue (queued 1 writes ∷ []) 0) in
      let fourth = with_desk empty (with_queue (queued 1 writes ∷ queued 2 reads ∷ []) 0) in
      let fifth = with_desk empty (with_queue all_asked 0) in
      let rest : SoloRun f 1 third (asked 2 reads ∷ asked 3 Flush ∷ writing) lines last =
      (fourth, [], lines, (refl, refl), (fifth, [], lines, (refl, refl), run_writing, refl), refl) in
      (made, [], lines, (refl, refl, refl), (second, [], lines, (refl, refl), (third, [], lines, (refl, refl), rest, refl), refl), refl)
