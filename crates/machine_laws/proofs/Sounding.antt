-- Each event leaves as many functions, and for each of them that waits a request waits.
use Rattle.std.proofs.Common.{◌≡◌, ◌⊎◌, ℕ, ◌+◌, inl, inr, true, false, List, [], ◌∷◌, ◌++◌, length, map, Option, Some, None, refl, sym, ap, ◌∙◌, subst}
use Rattle.std.specs.Prelude.{is_some}
use Rattle.std.proofs.lemmas.Bool.{both_ways, cond_both, false≢true}
use Rattle.std.proofs.lemmas.List.{length-map}
use Rattle.std.proofs.lemmas.Option.{none-some, same_Some}
use Rattle.nesc_base.specs.Files.{File, Files}
use Rattle.nesc_base.specs.declared.numbers.FnNo.{FnNo}
use Rattle.nesc_requests.specs.declared.event.Event.{Event}
use Rattle.nesc_requests.specs.declared.event.Event.TheVariants.{Evict, Handle, Host, Prune, PruneAt, Restart, Submit, Tick}
use Rattle.nesc_requests.specs.declared.host.HostAnswer.{HostAnswer}
use Rattle.nesc_requests.specs.declared.host.HostAnswer.TheVariants as said
use Rattle.nesc_requests.specs.declared.host.HostCommand.{HostCommand}
use Rattle.nesc_requests.specs.declared.host.HostCommand.TheVariants.{Attach, Delete, Detach, Regs, Sync}
use Rattle.nesc_requests.specs.declared.request.Queued.{Queued}
use Rattle.nesc_requests.specs.declared.request.Reply.{Reply}
use Rattle.nesc_requests.specs.declared.request.Request.{Request}
use Rattle.file_model.specs.Files.{Change}
use Rattle.plain_machine.specs.Functions.{AreSound, Attached, Becomes, Function, IsSound, function_at, is_empty, off}
use Rattle.plain_machine.specs.Handlings.{HandlesSo}
use Rattle.plain_machine.specs.HostCommands.{AttachStep, DetachStep, HostStep}
use Rattle.plain_machine.specs.Machine.{ComesTo, Does, Moves, restarted}
use Rattle.plain_machine.specs.State.{State, committed}
use Rattle.plain_machine.specs.Submissions.{Submits, with_request}
use Rattle.plain_machine.specs.Ticks.{FailsToRead, ServesBlock, Turn, TurnsTo, ended, is_last, served_of}
use Rattle.plain_machine.specs.declared.outcome.Answer.{Answer}
use Rattle.plain_machine.specs.declared.outcome.Answer.TheVariants as happened
use Rattle.plain_machine.specs.declared.outcome.Handled.{Handled}
use Rattle.plain_machine.specs.declared.outcome.Handled.TheVariants as handled
use Rattle.plain_machine.specs.declared.outcome.How.{How}
use Rattle.plain_machine.specs.declared.outcome.How.TheVariants.{Range}
use Rattle.plain_machine.specs.declared.outcome.Outcome.{Outcome}
use Rattle.plain_machine.specs.declared.setting.Setting.{Setting}
use Rattle.machine_laws.specs.Laws.{KeepsFunctions}
use Rattle.machine_laws.proofs.AfterCommit.{functions_committed}
use Rattle.machine_laws.proofs.Entries.{all_at, all_with, length_with}
use Rattle.machine_laws.proofs.Runnable.{next_is_runnable, waits_for_nothing}

-- What one function has

-- where it waits, a request waits
abbrev HasRequest : Attached → Type 0
HasRequest attached = is_some attached.waiting ≡ true → is_empty attached.queue ≡ false

sound_with : (function : Function) (attached : Attached) → function.attached ≡ Some attached → HasRequest attached → IsSound function
sound_with function attached on has other is = subst HasRequest (same_Some attached other (sym on ∙ is)) has

sound_without : (function : Function) → function.attached ≡ None → IsSound function
sound_without function none attached is = absurd (none-some attached (sym none ∙ is))

-- a list with one entry more is not empty
never_empty : (queue : List Queued) (queued : Queued) → is_empty (queue ++ queued ∷ []) ≡ false
never_empty [] queued = refl
never_empty (one ∷ queue) queued = refl

submitted_sound : (most : ℕ) (old : Function) (request : Request) (answer : Answer) (new : Function) → Submits most old request answer new
    → IsSound old → IsSound new
submitted_sound most old request (happened.Off back) new submits sound = subst IsSound (sym submits.2) sound
submitted_sound most old request (happened.Full back) new submits sound = subst IsSound (sym submits.2) sound
submitted_sound most old request (happened.Queued id) new submits sound =
    let attached = submits.attached in
    sound_with new (with_request attached old.next request) (ap (λ (function : Function). function.attached) submits.result)
    (λ waits. never_empty attached.queue _)
submitted_sound most old request answer new submits sound = absurd submits

-- Ticks

-- one block more of the request is done, and it was not the last
abbrev gone_on : Turn → Request → Attached
gone_on turn request = record turn.attached { queue = (record turn.head { request = request }) ∷ turn.rest; done = turn.attached.done + 1 }

module _ (turn : Turn) (ready : turn.attached.waiting ≡ None) where
  ended_has : HasRequest (ended turn)
  ended_has waits = absurd (both_ways (is_some turn.attached.waiting) (ap is_some ready) waits)

  served_has : (request : Request) → HasRequest (served_of turn request)
  served_has request = cond_both (is_last turn) (ended turn) (gone_on turn request) HasRequest (λ last. ended_has) (λ more waits. refl)

  block_has : (file : File) (how : How) (after : Option ℕ) (reply : Option Reply) (changes : List Change) (later : Attached)
      → ServesBlock file turn how after reply changes later ⊎ FailsToRead file turn how after reply changes later → HasRequest later
  block_has file how after reply changes later (inl serves) = subst HasRequest (sym serves.result) (served_has serves.request)
  block_has file how after reply changes later (inr fails) = subst HasRequest (sym fails.result) ended_has

  turned_has : (file : File) (answer : Answer) (after : Option ℕ) (reply : Option Reply) (changes : List Change) (later : Attached)
      → turn.attached.queue ≡ turn.head ∷ turn.rest → TurnsTo file turn answer after reply changes later → HasRequest later
  turned_has file (happened.Flushed f) after reply changes later queue turns = subst HasRequest (sym turns.1.result) ended_has
  turned_has file (happened.Served f v Range) after reply changes later queue turns = subst HasRequest (sym turns.2.result) ended_has
  turned_has file (happened.Served f v how) after reply changes later queue turns = block_has file how after reply changes later turns.2
  turned_has file (happened.Missed f miss fetched) after reply changes later queue turns =
      subst HasRequest (sym turns.1.result) (λ waits. ap is_empty queue)
  turned_has file answer after reply changes later queue turns = absurd turns

-- Handlings

handled_sound : (file : File) (f : FnNo) (old : Function) (did : Handled) (reply : Option Reply) (changes : List Change) (new : Function)
    → HandlesSo file f old did reply changes new → IsSound old → IsSound new
handled_sound file f old handled.None reply changes new handles sound = subst IsSound (sym handles.3) sound
handled_sound file f old handled.Built reply changes new handles sound =
    sound_with new _ (ap (λ (function : Function). function.attached) handles.result) (λ waits. absurd (false≢true waits))
handled_sound file f old (handled.Held count) reply changes new handles sound =
    sound_with new _ (ap (λ (function : Function). function.attached) handles.result) (λ waits. absurd (false≢true waits))
handled_sound file f old handled.NoSpace reply changes new handles sound =
    sound_with new _ (ap (λ (function : Function). function.attached) handles.result) (λ waits. absurd (false≢true waits))

-- All functions

-- as many, and for each of them that waits a request waits where that was so
abbrev StaySound : List Function → List Function → Type 0
StaySound old new = (length new ≡ length old) × (AreSound old → AreSound new)

same_sound : (old new : List Function) → new ≡ old → StaySound old new
same_sound old new same = subst (StaySound old) (sym same) (refl, λ sound. sound)

become_sound : (way : Function → Function → Type 0) (f : ℕ) (old new : List Function) → Becomes way f old new
    → ((after : Function) → way (function_at old f) after → IsSound (function_at old f) → IsSound after) → StaySound old new
become_sound way f old new becomes keeps =
    let after = becomes.after in
    subst (StaySound old) (sym becomes.others) (
      length_with old f after,
      λ sound.
          let before = all_at IsSound old f (sound_without off refl) sound in
          all_with IsSound old f after (keeps after becomes.becomes before) sound,
    )

attached_sound : (files : Files) (old : List Function) (f : ℕ) (name : List ℕ) (answer : HostAnswer) (new : List Function)
    → AttachStep files old f name answer new → StaySound old new
attached_sound files old f name said.NoFile new step = same_sound old new step.1
attached_sound files old f name said.FunctionTaken new step = same_sound old new step.2
attached_sound files old f name said.FileTaken new step = same_sound old new step.2
attached_sound files old f name said.Ok new step =
    become_sound _ f old new step.given
    (λ after is sound. sound_with after _ (ap (λ (function : Function). function.attached) is) (λ waits. absurd (false≢true waits)))
attached_sound files old f name answer new step = absurd step

detached_sound : (old : List Function) (f : ℕ) (answer : HostAnswer) (new : List Function) → DetachStep old f answer new → StaySound old new
detached_sound old f said.NotAttached new step = same_sound old new step.1
detached_sound old f said.Queued new step = same_sound old new step.1
detached_sound old f said.Ok new step =
    become_sound _ f old new step.1 (λ after is sound. sound_without after (ap (λ (function : Function). function.attached) is))
detached_sound old f answer new step = absurd step

host_sound : (blocks : ℕ) (files : Files) (old : List Function) (command : HostCommand) (answer : HostAnswer) (changes : List Change) (new : List Function)
    → HostStep blocks files old command answer changes new → StaySound old new
host_sound blocks files old (Delete name) answer changes new step = same_sound old new step.1
host_sound blocks files old (Attach f name) answer changes new step = attached_sound files old f.0 name answer new step.0
host_sound blocks files old (Detach f) answer changes new step = detached_sound old f.0 answer new step.0
host_sound blocks files old Sync answer changes new step = same_sound old new step.2
host_sound blocks files old (Regs f) answer changes new step = same_sound old new step.2
host_sound blocks files old command answer changes new step = same_sound old new step.1

-- Events

event_sound : (setting : Setting) (old : State) (event : Event) (outcome : Outcome) (changes : List Change) (functions : List Function) (last : ℕ)
    → ComesTo setting old event outcome changes functions last → StaySound old.functions functions
event_sound setting old (Submit f request) outcome changes functions last comes =
    become_sound _ f.0 old.functions functions comes.submits
    (λ after submits. submitted_sound setting.machine.queue (function_at old.functions f.0) request outcome.answer after submits)
event_sound setting old Tick outcome changes functions last (inl idle) = same_sound old.functions functions idle.same
event_sound setting old Tick outcome changes functions last (inr takes) =
    let runnable = next_is_runnable old.functions old.last takes.f.0 takes.next in
    become_sound _ takes.f.0 old.functions functions takes.serves (λ after serves sound.
    let ready = waits_for_nothing old.functions takes.f.0 serves.turn.attached runnable serves.is.on in
    sound_with after serves.later (ap (λ (function : Function). function.attached) serves.result)
    (turned_has serves.turn ready _ outcome.answer outcome.after outcome.reply changes serves.later serves.is.queue serves.turns))
event_sound setting old (Host command) outcome changes functions last comes =
    host_sound setting.geometry.blocks old.now old.functions command comes.said changes functions comes.answers
event_sound setting old (Handle f) outcome changes functions last comes =
    become_sound _ f.0 old.functions functions comes.handles (λ after handles.
    handled_sound _ f (function_at old.functions f.0) handles.did outcome.reply changes after handles.handles)
event_sound setting old (Prune f) outcome changes functions last comes = same_sound old.functions functions comes.same
event_sound setting old (PruneAt f v) outcome changes functions last comes = same_sound old.functions functions comes.same
event_sound setting old Evict outcome changes functions last comes = same_sound old.functions functions comes.same
event_sound setting old Restart outcome changes functions last comes = absurd comes

moved_sound : (setting : Setting) (old : State) (event : Event) (changes : List Change) (outcome : Outcome) (new : State)
    → Moves setting old event changes outcome new → StaySound old.functions new.functions
moved_sound setting old event changes outcome new moves =
    let same = ap (λ (state : State). state.functions) moves.result ∙ functions_committed _ outcome.after in
    subst (StaySound old.functions) (sym same)
    (event_sound setting old event outcome changes moves.functions moves.last moves.comes)

restarted_sound : (functions : List Function) → AreSound (map restarted functions)
restarted_sound [] = tt
restarted_sound (function ∷ functions) = (sound_without (restarted function) refl, restarted_sound functions)

done_sound : (setting : Setting) (old : State) (event : Event) (changes : List Change) (outcome : Outcome) (new : State)
    → Does setting old event changes outcome new → StaySound old.functions new.functions
done_sound setting old Restart changes outcome new does =
    let same = ap (λ (state : State). state.functions) does.result in
    subst (StaySound old.functions) (sym same) (length-map old.functions restarted, λ sound. restarted_sound old.functions)
done_sound setting old event changes outcome new does = moved_sound setting old event changes outcome new does

pub functions_stay : (event : Event) → KeepsFunctions event
functions_stay event setting old changes outcome new step =
    subst (λ (functions : List Function). StaySound functions new.functions) (functions_committed old outcome.before)
    (done_sound setting (committed outcome.before old) event changes outcome new step.does)
