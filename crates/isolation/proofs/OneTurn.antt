-- A turn, and a handling, of the function that is alone come to one end with what is told of them.
use Rattle.std.proofs.Common.{◌≡◌, ◌⊎◌, ℕ, inl, inr, Bool, List, [], take, Option, Some, None, sym, ap, ◌∙◌, subst}
use Rattle.std.proofs.lemmas.Option.{same_Some}
use Rattle.nesc_base.specs.Files.{File}
use Rattle.nesc_base.specs.declared.numbers.FnNo.{FnNo}
use Rattle.nesc_requests.specs.declared.request.End.TheVariants as end
use Rattle.nesc_requests.specs.declared.request.Miss.{Miss}
use Rattle.nesc_requests.specs.declared.request.Reply.{Reply}
use Rattle.nesc_requests.specs.declared.request.Request.{Request}
use Rattle.nesc_requests.specs.declared.request.Request.TheVariants.{Flush, Read, Write}
use Rattle.file_model.specs.Files.{Change, holding}
use Rattle.plain_machine.specs.Functions.{Attached, Function}
use Rattle.plain_machine.specs.Given.{clock_of, is_failed_get, is_failed_read, leaf_of, way_of}
use Rattle.plain_machine.specs.Handlings.{HandlesSo, ready, wanted}
use Rattle.plain_machine.specs.Ticks.{FailsToRead, IsTurn, Reaches, ServesBlock, Turn, TurnsTo, ended, reply_of}
use Rattle.plain_machine.specs.declared.outcome.Answer.{Answer}
use Rattle.plain_machine.specs.declared.outcome.Answer.TheVariants.{Flushed, Missed, Served}
use Rattle.plain_machine.specs.declared.outcome.Handled.{Handled}
use Rattle.plain_machine.specs.declared.outcome.Handled.TheVariants as handled
use Rattle.plain_machine.specs.declared.outcome.How.TheVariants.{Hit, Hole, Range, Walk}
use Rattle.machine_laws.proofs.Outcomes.{Given}
use Rattle.machine_laws.proofs.Turning.{turn_of, turn_of-Some, turned, turned_one}
use Rattle.isolation.specs.History.{OwnLine, bare}
use Rattle.isolation.specs.Solo.{HandlesAlone, Solo, TicksAlone, file_after_all, file_of, function_at_desk, told_by}

-- Turns

-- how many nodes were fetched has no part in how a block is reached
reached_bare : (file : File) (v done : ℕ) (request : Request) (fetched : ℕ) (after : Request) → Reaches file v done request (Walk fetched) after
    → Reaches file v done request (Walk 0) after
reached_bare file v done (Read at into) fetched after reaches = reaches
reached_bare file v done (Write at from) fetched after reaches = reaches
reached_bare file v done Flush fetched after reaches = absurd reaches

hole_bare : (file : File) (v done : ℕ) (request : Request) (fetched : ℕ) (after : Request) → Reaches file v done request (Hole fetched) after
    → Reaches file v done request (Hole 0) after
hole_bare file v done (Read at into) fetched after reaches = reaches
hole_bare file v done (Write at from) fetched after reaches = absurd reaches
hole_bare file v done Flush fetched after reaches = absurd reaches

module _ (file : File) (turn : Turn) (after : Option ℕ) (reply : Option Reply) (changes : List Change) (later : Attached) where
  walk_bare : (fetched : ℕ)
      → ServesBlock file turn (Walk fetched) after reply changes later ⊎ FailsToRead file turn (Walk fetched) after reply changes later
      → ServesBlock file turn (Walk 0) after reply changes later ⊎ FailsToRead file turn (Walk 0) after reply changes later
  walk_bare fetched (inl serves) = inl (record {
    below = serves.below;
    request = serves.request;
    reaches = reached_bare file _ turn.attached.done turn.head.request fetched serves.request serves.reaches;
    no_commit = serves.no_commit;
    puts = serves.puts;
    replies = serves.replies;
    result = serves.result;
  })
  walk_bare fetched (inr fails) = inr (record {
    below = fails.below;
    held = fails.held;
    on_disk = tt;
    read = fails.read;
    no_commit = fails.no_commit;
    unchanged = fails.unchanged;
    replies = fails.replies;
    result = fails.result;
  })

  unheld_bare : (fetched : ℕ)
      → ServesBlock file turn (Hole fetched) after reply changes later ⊎ FailsToRead file turn (Hole fetched) after reply changes later
      → ServesBlock file turn (Hole 0) after reply changes later ⊎ FailsToRead file turn (Hole 0) after reply changes later
  unheld_bare fetched (inl serves) = inl (record {
    below = serves.below;
    request = serves.request;
    reaches = hole_bare file _ turn.attached.done turn.head.request fetched serves.request serves.reaches;
    no_commit = serves.no_commit;
    puts = serves.puts;
    replies = serves.replies;
    result = serves.result;
  })
  unheld_bare fetched (inr fails) = absurd fails.on_disk

  -- and none in what a turn comes to
  turns_bare : (answer : Answer) → TurnsTo file turn answer after reply changes later → TurnsTo file turn (bare answer) after reply changes later
  turns_bare (Flushed f) turns = turns
  turns_bare (Served f v Range) turns = turns
  turns_bare (Served f v Hit) turns = turns
  turns_bare (Served f v (Walk fetched)) turns = (turns.0, turns.1, walk_bare fetched turns.2)
  turns_bare (Served f v (Hole fetched)) turns = (turns.0, turns.1, unheld_bare fetched turns.2)
  turns_bare (Missed f miss fetched) turns = turns
  turns_bare answer turns = absurd turns

-- what is given with this main line, where a read of the disk failed or did not
abbrev given_by : Answer → Option ℕ → Bool → Given
given_by line clock failed = record {
  way = way_of line;
  leaf = leaf_of line;
  failed_get = is_failed_get line;
  failed_read = failed;
  clock = clock_of clock;
}

-- what a turn comes to, with its main line
turned_bare : (file : File) (turn : Turn) (answer line : Answer) (clock : Option ℕ) (reply : Option Reply) (failed : Bool) (changes : List Change)
    (later : Attached) → bare answer ≡ line → is_failed_read reply ≡ failed → TurnsTo file turn answer clock reply changes later
    → record { answer = line; after = clock; reply = reply; changes = changes; later = later } ≡ turned file turn (given_by line clock failed)
turned_bare file turn answer line clock reply failed changes later is fails turns =
    turned_one file turn line clock reply changes later
    (subst (λ (line : Answer). TurnsTo file turn line clock reply changes later) is (turns_bare file turn clock reply changes later answer turns))
    ∙ ap (λ (failed : Bool). turned file turn (given_by line clock failed)) fails

module _ (f : FnNo) where
  -- one turn is the function's
  one_turn : (desk other : Attached) (first second : Turn) → desk ≡ other → IsTurn f (function_at_desk desk) first → IsTurn f (function_at_desk other) second
      → first ≡ second
  one_turn desk other first second same one two =
      same_Some first second
      (sym (turn_of-Some f (function_at_desk desk) first one)
      ∙ ap (λ (desk : Attached). turn_of f (function_at_desk desk)) same
      ∙ turn_of-Some f (function_at_desk other) second two)

  pub ticks_one : (old : Solo) (line : Answer) (clock : Option ℕ) (failed : Bool) (here there : List OwnLine) (first second : Solo)
      → TicksAlone f old line clock failed here first → TicksAlone f old line clock failed there second → (here ≡ there) × (first ≡ second)
  ticks_one old line clock failed here there first second one other =
      let desk = same_Some one.desk other.desk (sym one.on ∙ other.on) in
      let turn = one_turn one.desk other.desk one.turn other.turn desk one.is other.is in
      let same : record { answer = line; after = clock; reply = one.reply; changes = one.changes; later = one.later }
      ≡ record { answer = line; after = clock; reply = other.reply; changes = other.changes; later = other.later } =
      turned_bare (file_of old) one.turn one.answer line clock one.reply failed one.changes one.later one.is_line one.fails one.turns
      ∙ ap (λ (turn : Turn). turned (file_of old) turn (given_by line clock failed)) turn
      ∙ sym (turned_bare (file_of old) other.turn other.answer line clock other.reply failed other.changes other.later other.is_line other.fails other.turns) in (
        one.told ∙ (λ i. told_by (same i).reply) ∙ sym other.told,
        one.result ∙ (λ i. record old { now = file_after_all (same i).changes old.now; desk = Some (same i).later }) ∙ sym other.result,
      )

-- Handlings

-- what a handling leaves: the reply, the changes and what the function has then
record Left : Type 0 where
  reply : Option Reply
  changes : List Change
  later : Attached

module _ (file : File) (f : FnNo) (desk : Attached) where
  abbrev nothing_left : Left
  nothing_left = record { reply = None; changes = []; later = desk }

  abbrev left_ready : Left
  left_ready = record { reply = None; changes = []; later = ready desk }

  -- where it waits for this, if it waits
  abbrev left_holding : ℕ → Option Miss → Left
  left_holding count None = nothing_left
  left_holding count (Some miss) = record { reply = None; changes = holding desk.file (take count (wanted file miss)); later = ready desk }

  abbrev left_ended : Option Turn → Left
  left_ended None = nothing_left
  left_ended (Some turn) =
      record { reply = Some (reply_of turn end.NoSpace turn.attached.done turn.head.request); changes = []; later = ready (ended turn) }

  abbrev left_by : Handled → Left
  left_by handled.None = nothing_left
  left_by handled.Built = left_ready
  left_by (handled.Held count) = left_holding count desk.waiting
  left_by handled.NoSpace = left_ended (turn_of f (function_at_desk desk))

  -- what the function has
  has_later : (later attached : Attached) → function_at_desk later ≡ record (function_at_desk desk) { attached = Some attached } → later ≡ attached
  has_later later attached is = same_Some later attached (ap (λ (function : Function). function.attached) is)

  handled_so : (did : Handled) (reply : Option Reply) (changes : List Change) (later : Attached)
      → HandlesSo file f (function_at_desk desk) did reply changes (function_at_desk later)
      → record { reply = reply; changes = changes; later = later } ≡ left_by did
  handled_so handled.None reply changes later handles =
      let same = has_later later desk handles.3 in
      λ i. record { reply = handles.1 i; changes = handles.2 i; later = same i }
  handled_so handled.Built reply changes later handles =
      let at = same_Some desk handles.attached handles.on in
      let same = has_later later (ready handles.attached) handles.result ∙ ap ready (sym at) in
      λ i. record { reply = handles.silent i; changes = handles.unchanged i; later = same i }
  handled_so (handled.Held count) reply changes later handles =
      let at = same_Some desk handles.attached handles.on in
      let same = has_later later (ready handles.attached) handles.result ∙ ap ready (sym at) in
      let holds = handles.holds ∙ ap (λ (attached : Attached). holding attached.file (take count (wanted file handles.miss))) (sym at) in
      let waits = ap (λ (attached : Attached). attached.waiting) at ∙ handles.waits in
      (λ i. record { reply = handles.silent i; changes = holds i; later = same i }) ∙ sym (ap (left_holding count) waits)
  handled_so handled.NoSpace reply changes later handles =
      let turn = handles.turn in
      let same = has_later later (ready (ended turn)) handles.result in
      (λ i. record { reply = handles.replies i; changes = handles.unchanged i; later = same i })
      ∙ sym (ap left_ended (turn_of-Some f (function_at_desk desk) turn handles.is))

module _ (f : FnNo) where
  pub handles_one : (old : Solo) (did : Handled) (here there : List OwnLine) (first second : Solo)
      → HandlesAlone f old did here first → HandlesAlone f old did there second → (here ≡ there) × (first ≡ second)
  handles_one old did here there first second one other =
      let desk = same_Some one.desk other.desk (sym one.on ∙ other.on) in
      let same : record { reply = one.reply; changes = one.changes; later = one.later }
      ≡ record { reply = other.reply; changes = other.changes; later = other.later } =
      handled_so (file_of old) f one.desk did one.reply one.changes one.later one.handles
      ∙ ap (λ (desk : Attached). left_by (file_of old) f desk did) desk
      ∙ sym (handled_so (file_of old) f other.desk did other.reply other.changes other.later other.handles) in (
        one.told ∙ (λ i. told_by (same i).reply) ∙ sym other.told,
        one.result ∙ (λ i. record old { now = file_after_all (same i).changes old.now; desk = Some (same i).later }) ∙ sym other.result,
      )
