-- Each change that an event makes may be made, and so files stay as files may be.
use Rattle.std.proofs.Common.{◌≡◌, ◌⊎◌, ℕ, ◌+◌, inl, inr, List, [], ◌∷◌, ◌++◌, Option, None, Some, sym, subst}
use Rattle.std.specs.List.{AllByRecursion}
use Rattle.nesc_base.specs.Files.{File, Files}
use Rattle.nesc_base.specs.declared.block.Block.{Block}
use Rattle.nesc_base.specs.declared.numbers.FnNo.{FnNo}
use Rattle.nesc_requests.specs.Script.{IsWithinLimits}
use Rattle.nesc_requests.specs.declared.event.Event.{Event}
use Rattle.nesc_requests.specs.declared.event.Event.TheVariants.{Evict, Handle, Host, Prune, PruneAt, Restart, Submit, Tick}
use Rattle.nesc_requests.specs.declared.host.HostAnswer.{HostAnswer}
use Rattle.nesc_requests.specs.declared.host.HostAnswer.TheVariants as said
use Rattle.nesc_requests.specs.declared.host.HostCommand.{HostCommand}
use Rattle.nesc_requests.specs.declared.host.HostCommand.TheVariants.{Attach, Create, Delete, Detach, Get, Map, Put, Regs, Resize, Sync}
use Rattle.nesc_requests.specs.declared.request.Reply.{Reply}
use Rattle.nesc_requests.specs.declared.request.Request.{Request}
use Rattle.nesc_requests.specs.declared.request.Request.TheVariants.{Flush, Read, Write}
use Rattle.file_model.specs.Files.{Change, MayChange, holding, puts_from}
use Rattle.file_model.proofs.FileSets.{IsFileSet-LeadsTo}
use Rattle.plain_machine.specs.Functions.{Attached, Function, function_at}
use Rattle.plain_machine.specs.Handlings.{HandlesSo}
use Rattle.plain_machine.specs.HostCommands.{AnswersFor, DeleteStep, HostStep}
use Rattle.plain_machine.specs.Machine.{ComesTo, Does, Moves}
use Rattle.plain_machine.specs.State.{State, committed}
use Rattle.plain_machine.specs.Ticks.{FailsToRead, ServesBlock, Turn, TurnsTo, served_changes}
use Rattle.plain_machine.specs.declared.outcome.Answer.{Answer}
use Rattle.plain_machine.specs.declared.outcome.Answer.TheVariants.{Flushed, Missed, Served}
use Rattle.plain_machine.specs.declared.outcome.Handled.{Handled}
use Rattle.plain_machine.specs.declared.outcome.Handled.TheVariants as handled
use Rattle.plain_machine.specs.declared.outcome.How.{How}
use Rattle.plain_machine.specs.declared.outcome.How.TheVariants.{Range}
use Rattle.plain_machine.specs.declared.outcome.Outcome.{Outcome}
use Rattle.plain_machine.specs.declared.setting.Setting.{Setting}
use Rattle.machine_laws.specs.Laws.{HasFileSets, KeepsSets, MayCome}

-- each of the changes may be made
abbrev MayChangeEach : List Change → Type 0
MayChangeEach = AllByRecursion MayChange

may_put : (n v : ℕ) (blocks : List Block) → MayChangeEach (puts_from n v blocks)
may_put n v [] = tt
may_put n v (block ∷ blocks) = (tt, may_put n (v + 1) blocks)

may_write : (n : ℕ) (held : List ℕ) (v : ℕ) (blocks : List Block) → MayChangeEach (holding n held ++ puts_from n v blocks)
may_write n [] v blocks = may_put n v blocks
may_write n (at ∷ held) v blocks = (tt, may_put n v blocks)

may_hold : (n : ℕ) (blocks : List ℕ) → MayChangeEach (holding n blocks)
may_hold n [] = tt
may_hold n (v ∷ blocks) = (tt, tt)

may_serve : (n v done : ℕ) (request : Request) → MayChangeEach (served_changes n v done request)
may_serve n v done (Read at into) = tt
may_serve n v done (Write at from) = (tt, tt)
may_serve n v done Flush = tt

module _ (changes : List Change) where
  may_none : changes ≡ [] → MayChangeEach changes
  may_none none = subst MayChangeEach (sym none) tt

  -- Ticks

  may_block : (file : File) (turn : Turn) (how : How) (after : Option ℕ) (reply : Option Reply) (later : Attached)
      → ServesBlock file turn how after reply changes later ⊎ FailsToRead file turn how after reply changes later → MayChangeEach changes
  may_block file turn how after reply later (inl serves) = subst MayChangeEach (sym serves.puts) (may_serve _ _ _ turn.head.request)
  may_block file turn how after reply later (inr fails) = may_none fails.unchanged

  may_turn : (file : File) (turn : Turn) (answer : Answer) (after : Option ℕ) (reply : Option Reply) (later : Attached)
      → TurnsTo file turn answer after reply changes later → MayChangeEach changes
  may_turn file turn (Flushed f) after reply later turns = may_none turns.1.unchanged
  may_turn file turn (Served f v Range) after reply later turns = may_none turns.2.unchanged
  may_turn file turn (Served f v how) after reply later turns = may_block file turn how after reply later turns.2
  may_turn file turn (Missed f miss fetched) after reply later turns = may_none turns.1.unchanged
  may_turn file turn answer after reply later turns = absurd turns

  -- The host's commands

  may_answer : (blocks : ℕ) (files : Files) (command : HostCommand) (answer : HostAnswer) → IsWithinLimits command
      → AnswersFor blocks files command answer changes → MayChangeEach changes
  may_answer blocks files (Create name len) said.Exists may answers = may_none answers.1
  may_answer blocks files (Create name len) said.NoSlot may answers = may_none answers.2
  may_answer blocks files (Create name len) said.Ok may answers = subst MayChangeEach (sym answers.1) (may, tt)
  may_answer blocks files (Resize name len) said.NoFile may answers = may_none answers.1
  may_answer blocks files (Resize name len) said.Ok may answers = subst MayChangeEach (sym answers.sized) (may.1, tt)
  may_answer blocks files (Put name v from) said.NoFile may answers = may_none answers.1
  may_answer blocks files (Put name v from) said.Range may answers = may_none answers.1
  may_answer blocks files (Put name v from) (said.NoSpace are_free needed) may answers = may_none answers.1
  may_answer blocks files (Put name v from) said.Ok may answers = subst MayChangeEach (sym answers.1.puts) (may_write _ _ v from)
  may_answer blocks files (Map name v n) said.NoFile may answers = may_none answers.1
  may_answer blocks files (Map name v n) said.Range may answers = may_none answers.1
  may_answer blocks files (Map name v n) (said.NoSpace are_free needed) may answers = may_none answers.1
  may_answer blocks files (Map name v n) said.Ok may answers = subst MayChangeEach (sym answers.1.holds) (may_hold _ _)
  may_answer blocks files (Get name v into) said.NoFile may answers = may_none answers.1
  may_answer blocks files (Get name v into) said.Range may answers = may_none answers.1
  may_answer blocks files (Get name v into) said.Media may answers = may_none answers.1
  may_answer blocks files (Get name v into) (said.Got got) may answers = may_none answers.1
  may_answer blocks files command answer may answers = absurd answers

  may_delete : (files : Files) (functions : List Function) (name : List ℕ) (answer : HostAnswer) → DeleteStep files functions name answer changes
      → MayChangeEach changes
  may_delete files functions name said.NoFile step = may_none step.1
  may_delete files functions name said.Attached step = may_none step.1
  may_delete files functions name said.Ok step = subst MayChangeEach (sym step.gone) (tt, tt)
  may_delete files functions name answer step = absurd step

  may_host : (blocks : ℕ) (files : Files) (old : List Function) (command : HostCommand) (answer : HostAnswer) (new : List Function)
      → IsWithinLimits command → HostStep blocks files old command answer changes new → MayChangeEach changes
  may_host blocks files old (Delete name) answer new may step = may_delete files old name answer step.0
  may_host blocks files old (Attach f name) answer new may step = may_none step.1
  may_host blocks files old (Detach f) answer new may step = may_none step.1
  may_host blocks files old Sync answer new may step = may_none step.1
  may_host blocks files old (Regs f) answer new may step = may_none step.1
  may_host blocks files old command answer new may step = may_answer blocks files command answer may step.0

  -- Handlings

  may_handle : (file : File) (f : FnNo) (old : Function) (did : Handled) (reply : Option Reply) (new : Function)
      → HandlesSo file f old did reply changes new → MayChangeEach changes
  may_handle file f old handled.None reply new handles = may_none handles.2
  may_handle file f old handled.Built reply new handles = may_none handles.unchanged
  may_handle file f old (handled.Held count) reply new handles = subst MayChangeEach (sym handles.holds) (may_hold _ _)
  may_handle file f old handled.NoSpace reply new handles = may_none handles.unchanged

-- Events

may_event : (setting : Setting) (old : State) (event : Event) (outcome : Outcome) (changes : List Change) (functions : List Function) (last : ℕ)
    → MayCome event → ComesTo setting old event outcome changes functions last → MayChangeEach changes
may_event setting old (Submit f request) outcome changes functions last may comes = may_none changes comes.unchanged
may_event setting old Tick outcome changes functions last may (inl idle) = may_none changes idle.unchanged
may_event setting old Tick outcome changes functions last may (inr takes) =
    let serves = takes.serves.becomes in
    may_turn changes _ serves.turn outcome.answer outcome.after outcome.reply serves.later serves.turns
may_event setting old (Host command) outcome changes functions last may comes =
    may_host changes setting.geometry.blocks old.now old.functions command comes.said functions may comes.answers
may_event setting old (Handle f) outcome changes functions last may comes =
    let handles = comes.handles.becomes in
    may_handle changes _ f (function_at old.functions f.0) handles.did outcome.reply comes.handles.after handles.handles
may_event setting old (Prune f) outcome changes functions last may comes = may_none changes comes.unchanged
may_event setting old (PruneAt f v) outcome changes functions last may comes = may_none changes comes.unchanged
may_event setting old Evict outcome changes functions last may comes = may_none changes comes.unchanged
may_event setting old Restart outcome changes functions last may comes = absurd comes

sets_committed : (clock : Option ℕ) (state : State) → HasFileSets state → HasFileSets (committed clock state)
sets_committed None state sets = sets
sets_committed (Some at) state sets = record { now = sets.now; kept = sets.now }

moved_sets : (setting : Setting) (old : State) (event : Event) (changes : List Change) (outcome : Outcome) (new : State)
    → MayCome event → HasFileSets old → Moves setting old event changes outcome new → HasFileSets new
moved_sets setting old event changes outcome new may sets moves =
    let each = may_event setting old event outcome changes moves.functions moves.last may moves.comes in
    let now = IsFileSet-LeadsTo old.now changes moves.files each sets.now moves.leads in
    subst HasFileSets (sym moves.result) (sets_committed outcome.after _ (record { now = now; kept = sets.kept }))

done_sets : (setting : Setting) (old : State) (event : Event) (changes : List Change) (outcome : Outcome) (new : State)
    → MayCome event → HasFileSets old → Does setting old event changes outcome new → HasFileSets new
done_sets setting old Restart changes outcome new may sets does =
    subst HasFileSets (sym does.result) (record { now = sets.kept; kept = sets.kept })
done_sets setting old event changes outcome new may sets does = moved_sets setting old event changes outcome new may sets does

pub sets_stay : (event : Event) → KeepsSets event
sets_stay event may setting old changes outcome new sets step =
    done_sets setting (committed outcome.before old) event changes outcome new may (sets_committed outcome.before old sets) step.does
