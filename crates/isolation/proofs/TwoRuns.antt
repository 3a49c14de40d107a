-- Two lists of steps, by hand, of which the first function sees one thing: it reads two blocks of its file. In one the second
-- function misses a block, is handled, writes and flushes; in the other it is off, and the host empties the cache and syncs.
-- That each is a run of the machine is not shown here.
use Rattle.std.proofs.Common.{◌≡◌, ℕ, ◌+◌, ◌<◌, false, List, [], ◌∷◌, Option, Some, None, inl, refl, ap, ◌∙◌, arith, is_some, slice_set}
use Rattle.std.specs.FinMap.{empty, get-empty, insert}
use Rattle.std.specs.Ordering.{nat_cmp}
use Rattle.nesc_base.specs.Block.{zero_block}
use Rattle.nesc_base.specs.Files.{Files}
use Rattle.nesc_base.specs.declared.block.Block.{Block}
use Rattle.nesc_base.specs.declared.numbers.FnNo.{FnNo}
use Rattle.nesc_base.proofs.Maps.{get-insert_other, get-insert_same}
use Rattle.nesc_requests.specs.declared.event.Event.TheVariants.{Evict, Handle, Host, Tick}
use Rattle.nesc_requests.specs.declared.host.HostAnswer.TheVariants as said
use Rattle.nesc_requests.specs.declared.host.HostCommand.TheVariants.{Sync}
use Rattle.nesc_requests.specs.declared.request.End.TheVariants as end
use Rattle.nesc_requests.specs.declared.request.Kind.TheVariants.{Unmapped}
use Rattle.nesc_requests.specs.declared.request.Miss.{Miss}
use Rattle.nesc_requests.specs.declared.request.Queued.{Queued}
use Rattle.nesc_requests.specs.declared.request.Reply.{Reply}
use Rattle.nesc_requests.specs.declared.request.Request.{Request}
use Rattle.nesc_requests.specs.declared.request.Request.TheVariants.{Flush, Read, Write}
use Rattle.file_model.specs.Files.{hold, put, with_block}
use Rattle.plain_machine.specs.Functions.{Attached, fresh}
use Rattle.plain_machine.specs.Given.{is_failed_read}
use Rattle.plain_machine.specs.Groups.{ok}
use Rattle.plain_machine.specs.Machine.{StepTaken}
use Rattle.plain_machine.specs.State.{State}
use Rattle.plain_machine.specs.Ticks.{Reaches, Turn, replied_to, served_of}
use Rattle.plain_machine.specs.declared.outcome.Answer.TheVariants.{Evicted, Flushed, Handled, Idle, Missed, Served}
use Rattle.plain_machine.specs.declared.outcome.Answer.TheVariants as happened
use Rattle.plain_machine.specs.declared.outcome.Handled.TheVariants.{Held}
use Rattle.plain_machine.specs.declared.outcome.How.TheVariants.{Hole, Walk}
use Rattle.isolation.specs.History.{OwnEvent, OwnLine, kept, lines_in, own_in, replied, ticked}
use Rattle.isolation.specs.Solo.{Solo, SoloRun, TicksAlone, solo_in, told_by}
use Rattle.isolation.proofs.TwoGuests.{files, first_file, outcome_of, second, second_file}

-- the first function
abbrev first : FnNo
first = record { 0 = 1 }

-- the block that the second function writes, and the two that stand in the first function's buffer before
module _ (block one two : Block) where
  -- the first function, with this in the buffer of its read, and so many blocks of it done
  abbrev reading : List Block → ℕ → Attached
  reading into done = record { file = 1; queue = record { id = 1; request = Read 0 into } ∷ []; done = done; waiting = None }

  -- none of them
  abbrev none_read : Attached
  none_read = reading (one ∷ two ∷ []) 0

  -- one of them
  abbrev one_read : Attached
  one_read = reading (zero_block ∷ two ∷ []) 1

  -- the second function, with these requests, while it waits for this, if it does
  abbrev writing : List Queued → Option Miss → Attached
  writing queue waiting = record { file = 2; queue = queue; done = 0; waiting = waiting }

  -- its flush
  abbrev flush_last : List Queued
  flush_last = record { id = 2; request = Flush } ∷ []

  -- and its write before that
  abbrev write_first : List Queued
  write_first = record { id = 1; request = Write 4 (block ∷ []) } ∷ flush_last

  -- the read ends, with its two blocks
  abbrev read_ends : Reply
  read_ends = record { f = first; id = 1; end = end.Ok; done = 2; request = Read 0 (zero_block ∷ zero_block ∷ []) }

  -- the write ends
  abbrev write_ends : Reply
  write_ends = record { f = second; id = 1; end = end.Ok; done = 1; request = Write 4 (block ∷ []) }

  -- the flush ends
  abbrev flush_ends : Reply
  flush_ends = record { f = second; id = 2; end = end.Flushed 20; done = 0; request = Flush }

  -- these files, what the two functions have, which was taken last, and how many blocks are staged
  abbrev state : (now last_kept : Files) → Attached → Option Attached → (last count : ℕ) → State
  state now last_kept here there last count =
      let functions = record { attached = Some here; next = 3 } ∷ record { attached = there; next = 3 } ∷ [] in
      record { now = now; kept = last_kept; functions = functions; last = last; count = count }

  -- where the steps beside the second function start
  abbrev start_beside : State
  start_beside = state (files block) (files block) none_read (Some (writing write_first None)) 0 0

  -- those steps: two turns of the first, and between and after them what is done for the second
  abbrev steps_beside : List StepTaken
  steps_beside =
      let held_file = with_block (second_file block) 4 zero_block in
      let held = insert (files block) 2 held_file in
      let written = insert held 2 (with_block held_file 4 block) in
      let miss : Miss = record { v = 4; n = 1; kind = Unmapped } in
      let served = state (files block) (files block) one_read (Some (writing write_first None)) 1 0 in
      let missed = state (files block) (files block) one_read (Some (writing write_first (Some miss))) 2 0 in
      let handled = state held (files block) one_read (Some (writing write_first None)) 2 1 in
      let answered = state held (files block) (fresh 1) (Some (writing write_first None)) 1 1 in
      let wrote = state written (files block) (fresh 1) (Some (writing flush_last None)) 2 2 in
      let flushed = state written written (fresh 1) (Some (fresh 2)) 2 0 in
      record { old = start_beside; event = Tick; changes = []; outcome = outcome_of (Served first 0 (Hole 3)) None; new = served }
      ∷ record { old = served; event = Tick; changes = []; outcome = outcome_of (Missed second miss 3) None; new = missed }
      ∷ record { old = missed; event = Handle second; changes = hold 2 (4 ∷ []) ∷ []; outcome = outcome_of (Handled second (Held 1)) None; new = handled }
      ∷ record { old = handled; event = Tick; changes = []; outcome = outcome_of (Served first 1 (Hole 0)) (Some read_ends); new = answered }
      ∷ record { old = answered; event = Tick; changes = put 2 4 block ∷ []; outcome = outcome_of (Served second 4 (Walk 3)) (Some write_ends); new = wrote }
      ∷ record { old = wrote; event = Tick; changes = []; outcome = record (outcome_of (Flushed second) (Some flush_ends)) { after = Some 20 }; new = flushed }
      ∷ []

  -- the second function is off, and there is no second file
  abbrev alone : Attached → ℕ → State
  alone here last = state (insert empty 1 first_file) (insert empty 1 first_file) here None last 0

  -- the steps there: the same two turns, an emptied cache, a tick that finds nothing, and a sync
  abbrev steps_alone : List StepTaken
  steps_alone =
      let begun = alone one_read 1 in
      let done = alone (fresh 1) 1 in
      record { old = alone none_read 0; event = Tick; changes = []; outcome = outcome_of (Served first 0 (Hole 1)) None; new = begun }
      ∷ record { old = begun; event = Evict; changes = []; outcome = outcome_of Evicted None; new = begun }
      ∷ record { old = begun; event = Tick; changes = []; outcome = outcome_of (Served first 1 (Hole 2)) (Some read_ends); new = done }
      ∷ record { old = done; event = Tick; changes = []; outcome = outcome_of Idle None; new = done }
      ∷ record { old = done; event = Host Sync; changes = []; outcome = record (outcome_of (happened.Host said.Ok) None) { after = Some 35 }; new = done }
      ∷ []

  -- two turns of the read, and a commit
  abbrev history : List OwnEvent
  history = ticked (Served first 0 (Hole 0)) None false ∷ ticked (Served first 1 (Hole 0)) None false ∷ kept ∷ []

  -- the answer of the read
  abbrev lines : List OwnLine
  lines = replied 0 (record { f = first; id = 1; end = ok 2 (zero_block ∷ zero_block ∷ []) }) ∷ []

  -- that is the own history of both
  pub same_history : (own_in 1 1 steps_beside ≡ history) × (own_in 1 1 steps_alone ≡ history)
  same_history = (refl, refl)

  -- and these are the lines of both
  pub same_lines : (lines_in 1 1 steps_beside ≡ lines) × (lines_in 1 1 steps_alone ≡ lines)
  same_lines = (refl, refl)

  -- the machine of the first file, where the function has this
  abbrev at_desk : Attached → Solo
  at_desk here = record { now = Some first_file; last_kept = Some first_file; desk = Some here }

  -- both start so, before a block is read
  pub same_start : (solo_in first 1 start_beside ≡ at_desk none_read) × (solo_in first 1 (alone none_read 0) ≡ at_desk none_read)
  same_start =
      let in_only = get-insert_same empty 1 first_file in
      let in_both = get-insert_other (insert empty 1 first_file) 2 (second_file block) 1 (omega arith) ∙ in_only in (
        ap (λ found. record { now = found; last_kept = found; desk = Some none_read }) in_both,
        ap (λ found. record { now = found; last_kept = found; desk = Some none_read }) in_only,
      )

  -- a turn of the read, after so many blocks
  abbrev turn_at : List Block → ℕ → Turn
  turn_at into done = record { f = first; attached = reading into done; head = record { id = 1; request = Read 0 into }; rest = [] }

  -- the request after a hole there
  abbrev request_after : List Block → ℕ → Request
  request_after into done = Read 0 (slice_set into done zero_block)

  -- such a turn alone
  reads_hole : (into : List Block) (done : ℕ) → 0 + done < 10 → is_failed_read (replied_to (turn_at into done) (request_after into done)) ≡ false
      → TicksAlone first (at_desk (reading into done)) (Served first (0 + done) (Hole 0)) None false
      (told_by (replied_to (turn_at into done) (request_after into done))) (at_desk (served_of (turn_at into done) (request_after into done)))
  reads_hole into done below fails =
      let hole : Reaches first_file (0 + done) done (Read 0 into) (Hole 0) (request_after into done) = (ap is_some (get-empty nat_cmp (0 + done)), refl) in
      record {
        desk = reading into done;
        on = refl;
        turn = turn_at into done;
        is = record { takes = refl; on = refl; queue = refl };
        answer = Served first (0 + done) (Hole 0);
        is_line = refl;
        reply = replied_to (turn_at into done) (request_after into done);
        changes = [];
        later = served_of (turn_at into done) (request_after into done);
        turns = (refl, refl, inl (record { below = below; request = request_after into done; reaches = hole; no_commit = refl; puts = refl; replies = refl; result = refl }));
        fails = fails;
        told = refl;
        result = refl;
      }

  -- over this history it tells these lines
  pub runs_alone : SoloRun first 1 (at_desk none_read) history lines (at_desk (fresh 1))
  runs_alone =
      let second_block = reads_hole (zero_block ∷ two ∷ []) 1 (omega arith) refl in (
        at_desk one_read,
        [],
        lines,
        reads_hole (one ∷ two ∷ []) 0 (omega arith) refl,
        (at_desk (fresh 1), lines, [], second_block, (at_desk (fresh 1), [], [], (refl, refl), (refl, refl), refl), refl),
        refl,
      )
