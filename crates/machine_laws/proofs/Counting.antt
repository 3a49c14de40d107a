-- What an event stages is what its answer says.
use Rattle.std.proofs.Common.{◌≡◌, ◌⊎◌, ℕ, inl, inr, if◌then◌else◌, min, Bool, true, List, [], length, take, Option, None, Some, refl, sym, ap, ◌∙◌, subst, arith}
use Rattle.std.specs.Option.{option_and_then, option_map_or}
use Rattle.std.proofs.lemmas.Bool.{false≢true}
use Rattle.std.proofs.lemmas.List.{length-take}
use Rattle.nesc_base.specs.Files.{File, Files, IsFileSet, file_at}
use Rattle.nesc_base.specs.declared.numbers.FnNo.{FnNo}
use Rattle.nesc_requests.specs.Requests.{is_write}
use Rattle.nesc_requests.specs.declared.event.Event.{Event}
use Rattle.nesc_requests.specs.declared.event.Event.TheVariants.{Evict, Handle, Host, Prune, PruneAt, Restart, Submit, Tick}
use Rattle.nesc_requests.specs.declared.host.HostAnswer.{HostAnswer}
use Rattle.nesc_requests.specs.declared.host.HostAnswer.TheVariants as said
use Rattle.nesc_requests.specs.declared.host.HostCommand.{HostCommand}
use Rattle.nesc_requests.specs.declared.host.HostCommand.TheVariants.{Attach, Create, Delete, Detach, Get, Map, Put, Regs, Resize, Sync}
use Rattle.nesc_requests.specs.declared.request.Reply.{Reply}
use Rattle.nesc_requests.specs.declared.request.Request.{Request}
use Rattle.nesc_requests.specs.declared.request.Request.TheVariants.{Flush, Read, Write}
use Rattle.file_model.specs.Files.{Change, free, staged, unheld}
use Rattle.plain_machine.specs.Functions.{Attached, Function, file_number, function_at}
use Rattle.plain_machine.specs.Handlings.{FindsSpace, HandlesSo, wanted}
use Rattle.plain_machine.specs.HostCommands.{AnswersFor, DeleteStep, HostStep}
use Rattle.plain_machine.specs.Machine.{ComesTo, Does, has_write_first, starts_with_write}
use Rattle.plain_machine.specs.State.{State, committed}
use Rattle.plain_machine.specs.Ticks.{FailsToRead, IsTurn, Reaches, ServesBlock, Turn, TurnsTo, is_read, served_changes}
use Rattle.plain_machine.specs.declared.outcome.Answer.{Answer}
use Rattle.plain_machine.specs.declared.outcome.Answer.TheVariants as happened
use Rattle.plain_machine.specs.declared.outcome.Handled.{Handled}
use Rattle.plain_machine.specs.declared.outcome.Handled.TheVariants as handled
use Rattle.plain_machine.specs.declared.outcome.How.{How}
use Rattle.plain_machine.specs.declared.outcome.How.TheVariants.{Hit, Hole, Range, Walk}
use Rattle.plain_machine.specs.declared.outcome.Outcome.{Outcome}
use Rattle.plain_machine.specs.declared.setting.Setting.{Setting}
use Rattle.machine_laws.specs.Laws.{CountsStaged}
use Rattle.machine_laws.specs.Staging.{AreStaged, StagedByHost, staged_by_handling}
use Rattle.machine_laws.proofs.AfterCommit.{now_committed}
use Rattle.machine_laws.proofs.Deciding.{named_one}
use Rattle.machine_laws.proofs.Staged.{none_staged, staged_holding, staged_write}

-- The host's commands

module _ (changes : List Change) where
  answer_staged : (blocks : ℕ) (files : Files) (command : HostCommand) (answer : HostAnswer) → IsFileSet files
      → AnswersFor blocks files command answer changes → StagedByHost files command answer (staged changes)
  answer_staged blocks files (Create name len) said.Exists set answers = none_staged changes answers.1
  answer_staged blocks files (Create name len) said.NoSlot set answers = none_staged changes answers.2
  answer_staged blocks files (Create name len) said.Ok set answers = ap staged answers.1
  answer_staged blocks files (Resize name len) said.NoFile set answers = none_staged changes answers.1
  answer_staged blocks files (Resize name len) said.Ok set answers = ap staged answers.sized
  answer_staged blocks files (Put name v from) said.NoFile set answers = none_staged changes answers.1
  answer_staged blocks files (Put name v from) said.Range set answers = none_staged changes answers.1
  answer_staged blocks files (Put name v from) (said.NoSpace are_free needed) set answers = none_staged changes answers.1
  answer_staged blocks files (Put name v from) said.Ok set answers =
      let puts = answers.1 in ap staged puts.puts ∙ staged_write puts.number puts.file v from
  answer_staged blocks files (Map name v n) said.NoFile set answers = none_staged changes answers.1
  answer_staged blocks files (Map name v n) said.Range set answers = none_staged changes answers.1
  answer_staged blocks files (Map name v n) (said.NoSpace are_free needed) set answers = none_staged changes answers.1
  answer_staged blocks files (Map name v n) said.Ok set answers = λ number file named.
      let maps = answers.1 in
      ap staged maps.holds
      ∙ staged_holding maps.number (unheld maps.file v n)
      ∙ ap (λ (file : File). length (unheld file v n)) (named_one files name maps.number number maps.file file set maps.named named).1
  answer_staged blocks files (Get name v into) said.NoFile set answers = none_staged changes answers.1
  answer_staged blocks files (Get name v into) said.Range set answers = none_staged changes answers.1
  answer_staged blocks files (Get name v into) said.Media set answers = none_staged changes answers.1
  answer_staged blocks files (Get name v into) (said.Got got) set answers = none_staged changes answers.1
  answer_staged blocks files command answer set answers = absurd answers

  delete_staged : (files : Files) (functions : List Function) (name : List ℕ) (answer : HostAnswer) → DeleteStep files functions name answer changes
      → staged changes ≡ 0
  delete_staged files functions name said.NoFile step = none_staged changes step.1
  delete_staged files functions name said.Attached step = none_staged changes step.1
  delete_staged files functions name said.Ok step = ap staged step.gone
  delete_staged files functions name answer step = absurd step

  host_staged : (blocks : ℕ) (files : Files) (old : List Function) (command : HostCommand) (answer : HostAnswer) (new : List Function) → IsFileSet files
      → HostStep blocks files old command answer changes new → StagedByHost files command answer (staged changes)
  host_staged blocks files old (Delete name) answer new set step = delete_staged files old name answer step.0
  host_staged blocks files old (Attach f name) answer new set step = none_staged changes step.1
  host_staged blocks files old (Detach f) answer new set step = none_staged changes step.1
  host_staged blocks files old Sync answer new set step = none_staged changes step.1
  host_staged blocks files old (Regs f) answer new set step = none_staged changes step.1
  host_staged blocks files old command answer new set step = answer_staged blocks files command answer set step.0

-- Handlings

-- the first so many of a list are so many, where that is the smaller of its length and what is free
first_of_them : (blocks : List ℕ) (count are_free : ℕ) → count ≡ min (length blocks) are_free → length (take count blocks) ≡ count
first_of_them blocks count are_free least = omega (arith, length-take count blocks)

handling_staged : (are_free : ℕ) (files : Files) (f : FnNo) (old : Function) (did : Handled) (reply : Option Reply) (changes : List Change) (new : Function)
    → HandlesSo (file_at files (file_number old)) f old did reply changes new → FindsSpace are_free files old (happened.Handled f did)
    → staged changes ≡ staged_by_handling did
handling_staged are_free files f old handled.None reply changes new handles finds = none_staged changes handles.2
handling_staged are_free files f old handled.Built reply changes new handles finds = none_staged changes handles.unchanged
handling_staged are_free files f old (handled.Held count) reply changes new handles finds =
    let attached = handles.attached in
    let blocks = wanted (file_at files (file_number old)) handles.miss in
    let waits = ap (option_and_then (λ (attached : Attached). attached.waiting)) handles.on ∙ handles.waits in
    ap staged handles.holds
    ∙ staged_holding attached.file (take count blocks)
    ∙ first_of_them blocks count are_free (finds handles.miss waits).0
handling_staged are_free files f old handled.NoSpace reply changes new handles finds = none_staged changes handles.unchanged

-- Ticks

abbrev one_for_write : Bool → ℕ
one_for_write write = if write then 1 else 0

-- serving a block stages one for a write
served_staged : (n v done : ℕ) (request : Request) → staged (served_changes n v done request) ≡ one_for_write (is_write request)
served_staged n v done (Read at into) = refl
served_staged n v done (Write at from) = refl
served_staged n v done Flush = refl

-- and where it cannot be read, it was none
read_stages_none : (request : Request) → is_read request ≡ true → 0 ≡ one_for_write (is_write request)
read_stages_none (Read at into) read = refl
read_stages_none (Write at from) read = absurd (false≢true read)
read_stages_none Flush read = absurd (false≢true read)

block_staged : (file : File) (turn : Turn) (how : How) (after : Option ℕ) (reply : Option Reply) (changes : List Change) (later : Attached)
    → ServesBlock file turn how after reply changes later ⊎ FailsToRead file turn how after reply changes later
    → staged changes ≡ one_for_write (is_write turn.head.request)
block_staged file turn how after reply changes later (inl serves) = ap staged serves.puts ∙ served_staged _ _ _ turn.head.request
block_staged file turn how after reply changes later (inr fails) =
    none_staged changes fails.unchanged ∙ read_stages_none turn.head.request fails.read

-- what is reached by a hole is read
hole_staged : (file : File) (n v done : ℕ) (request : Request) (fetched : ℕ) (after : Request) → Reaches file v done request (Hole fetched) after
    → staged (served_changes n v done request) ≡ 0
hole_staged file n v done (Read at into) fetched after reaches = refl
hole_staged file n v done (Write at from) fetched after reaches = absurd reaches
hole_staged file n v done Flush fetched after reaches = absurd reaches

-- the request of a turn is the first of its function
turn_first : (f : FnNo) (function : Function) (turn : Turn) → IsTurn f function turn → has_write_first function ≡ is_write turn.head.request
turn_first f function turn is =
    ap (λ (has : Option Attached). starts_with_write (option_map_or (λ (attached : Attached). attached.queue) has [])) is.on
    ∙ ap starts_with_write is.queue

module _ (old : State) (f : FnNo) where
  write_first : (turn : Turn) (g : FnNo) → IsTurn f (function_at old.functions f.0) turn → g ≡ turn.f
      → one_for_write (is_write turn.head.request) ≡ one_for_write (has_write_first (function_at old.functions g.0))
  write_first turn g is same =
      let first = ap (λ (g : FnNo). has_write_first (function_at old.functions g.0)) (same ∙ is.takes) ∙ turn_first f (function_at old.functions f.0) turn is in
      ap one_for_write (sym first)

  turn_staged : (file : File) (turn : Turn) (answer : Answer) (after : Option ℕ) (reply : Option Reply) (changes : List Change) (later : Attached)
      → IsTurn f (function_at old.functions f.0) turn → TurnsTo file turn answer after reply changes later → AreStaged old Tick answer (staged changes)
  turn_staged file turn (happened.Flushed g) after reply changes later is turns = none_staged changes turns.1.unchanged
  turn_staged file turn (happened.Served g v Range) after reply changes later is turns = none_staged changes turns.2.unchanged
  turn_staged file turn (happened.Served g v Hit) after reply changes later is turns =
      block_staged file turn Hit after reply changes later turns.2 ∙ write_first turn g is turns.0
  turn_staged file turn (happened.Served g v (Walk fetched)) after reply changes later is turns =
      block_staged file turn (Walk fetched) after reply changes later turns.2 ∙ write_first turn g is turns.0
  turn_staged file turn (happened.Served g v (Hole fetched)) after reply changes later is turns =
      elim turns.2 [
        | inl serves ↦ ap staged serves.puts ∙ hole_staged file _ _ _ turn.head.request fetched _ serves.reaches
        | inr fails ↦ absurd fails.on_disk
      ]
  turn_staged file turn (happened.Missed g miss fetched) after reply changes later is turns = none_staged changes turns.1.unchanged
  turn_staged file turn answer after reply changes later is turns = absurd turns

-- Events

event_staged : (setting : Setting) (old : State) (event : Event) (outcome : Outcome) (changes : List Change) (functions : List Function) (last : ℕ)
    → IsFileSet old.now → ComesTo setting old event outcome changes functions last → AreStaged old event outcome.answer (staged changes)
event_staged setting old (Submit f request) outcome changes functions last set comes = none_staged changes comes.unchanged
event_staged setting old Tick outcome changes functions last set (inl idle) =
    subst (λ (answer : Answer). AreStaged old Tick answer (staged changes)) (sym idle.idle) (none_staged changes idle.unchanged)
event_staged setting old Tick outcome changes functions last set (inr takes) =
    let serves = takes.serves.becomes in
    turn_staged old takes.f _ serves.turn outcome.answer outcome.after outcome.reply changes serves.later serves.is serves.turns
event_staged setting old (Host command) outcome changes functions last set comes =
    subst (λ (answer : Answer). AreStaged old (Host command) answer (staged changes)) (sym comes.told)
    (host_staged changes setting.geometry.blocks old.now old.functions command comes.said functions set comes.answers)
event_staged setting old (Handle f) outcome changes functions last set comes =
    let handles = comes.handles.becomes in
    let are_free = free setting.geometry.blocks old.now in
    let function = function_at old.functions f.0 in
    let finds = subst (FindsSpace are_free old.now function) handles.told comes.finds in
    subst (λ (answer : Answer). AreStaged old (Handle f) answer (staged changes)) (sym handles.told)
    (handling_staged are_free old.now f function handles.did outcome.reply changes comes.handles.after handles.handles finds)
event_staged setting old (Prune f) outcome changes functions last set comes = none_staged changes comes.unchanged
event_staged setting old (PruneAt f v) outcome changes functions last set comes = none_staged changes comes.unchanged
event_staged setting old Evict outcome changes functions last set comes = none_staged changes comes.unchanged
event_staged setting old Restart outcome changes functions last set comes = absurd comes

done_staged : (setting : Setting) (old : State) (event : Event) (changes : List Change) (outcome : Outcome) (new : State)
    → IsFileSet old.now → Does setting old event changes outcome new → AreStaged old event outcome.answer (staged changes)
done_staged setting old Restart changes outcome new set does = none_staged changes does.unchanged
done_staged setting old event changes outcome new set does =
    event_staged setting old event outcome changes does.functions does.last set does.comes

-- a commit before the event leaves what its answer says
staged_before : (old : State) (clock : Option ℕ) (event : Event) (answer : Answer) (count : ℕ) → AreStaged (committed clock old) event answer count
    → AreStaged old event answer count
staged_before old None event answer count are = are
staged_before old (Some at) (Host command) (happened.Host said) count are = are
staged_before old (Some at) Tick (happened.Served f v how) count are = are
staged_before old (Some at) (Handle f) (happened.Handled g did) count are = are
staged_before old (Some at) event answer count are = are

pub blocks_are_counted : (event : Event) → CountsStaged event
blocks_are_counted event setting old changes outcome new set step =
    staged_before old outcome.before event outcome.answer (staged changes)
    (done_staged setting (committed outcome.before old) event changes outcome new (subst IsFileSet (sym (now_committed old outcome.before)) set) step.does)
