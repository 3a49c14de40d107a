-- The functions that a command of the host leaves are those that their requests make with the files that they have then.
use Rattle.std.proofs.Common.{◌≡◌, ℕ, zero, suc, true, false, List, length, Option, None, Some, inl, inr, is_none, refl, sym, ap, ◌∙◌, subst}
use Rattle.std.specs.List.{All}
use Rattle.std.specs.Option.{option_and_then, option_map_or}
use Rattle.std.proofs.lemmas.Bool.{false≢true}
use Rattle.std.proofs.lemmas.List.{nil_from_length}
use Rattle.std.proofs.lemmas.Option.{get_or_from_slice_get, none-some, slice_get_within}
use Rattle.nesc_base.specs.declared.numbers.FileNo.{FileNo}
use Rattle.nesc_base.specs.Files.{Files}
use Rattle.nesc_requests.specs.declared.host.HostAnswer.{HostAnswer}
use Rattle.nesc_requests.specs.declared.host.HostAnswer.TheVariants as said
use Rattle.nesc_requests.specs.declared.host.HostCommand.{HostCommand}
use Rattle.nesc_requests.specs.declared.host.HostCommand.TheVariants.{Attach, Create, Delete, Detach, Get, Map, Put, Regs, Resize, Sync}
use Rattle.nesc_requests.specs.Script.{numbered, with_numbered}
use Rattle.file_model.specs.Files.{Change}
use Rattle.hypervisor.specs.Attachments.{Attachments, file_numbers, file_of}
use Rattle.hypervisor.specs.Carrying.{IsForHost}
use Rattle.hypervisor.proofs.Numbering.{length_numbered}
use Rattle.plain_machine.specs.Functions.{Function, function_at}
use Rattle.plain_machine.specs.HostCommands.{AttachStep, Attaches, DetachStep, HostStep, attached_to, detached}
use Rattle.plain_machine.specs.Machine.{is_sync}
use Rattle.nesc_session.specs.Requests.{IsClearWhereIdle, Requests, function_of, functions_of}
use Rattle.nesc_session.specs.Resting.{IsIdleWhereOff}
use Rattle.nesc_session.proofs.Items.{numbered_cases}
use Rattle.nesc_session.proofs.MadeFunctions.{file_numbers_functions, function_at_functions, functions_with_file, numbered_functions, numbered_none}

-- what holds of each entry holds of one of a number
numbered_all : {X : Type 0} (P : X → Type 0) (xs : List X) (f : ℕ) (x : X) → All P xs → numbered xs f ≡ Some x → P x
numbered_all P xs zero x all at = absurd (none-some x at)
numbered_all P xs (suc k) x all at = subst P (get_or_from_slice_get xs k x x at) (all k x (slice_get_within xs k x at))

-- the function has no file
off_file : (file : Option FileNo) (requests : Requests) → is_none (function_of file requests).attached ≡ true → file ≡ None
off_file None requests off = refl
off_file (Some file) requests off = absurd (false≢true off)

next_as : (file : Option FileNo) (requests : Requests) → (function_of file requests).next ≡ requests.queue.next
next_as None requests = refl
next_as (Some file) requests = refl

-- no other command than a `sync` is one
pub no_sync : (command : HostCommand) → IsForHost command → is_sync command ≡ false
no_sync Sync here = absurd here
no_sync (Regs f) here = absurd here
no_sync other here = refl

module _ (files : Attachments) (all : List Requests) (as_many : length files ≡ length all) (idle : IsIdleWhereOff files all) (clear : All IsClearWhereIdle all) where
  abbrev functions : List Function
  functions = functions_of files all

  module _ (new : List Function) (others : Attachments) (has : file_numbers new ≡ others) where
    -- none has changed
    as_before : new ≡ functions → new ≡ functions_of others all
    as_before same = same ∙ ap (λ (those : Attachments). functions_of those all) (sym (file_numbers_functions files all as_many) ∙ ap file_numbers (sym same) ∙ has)

    -- one has another file, or none
    with_other : (f : ℕ) (file : Option FileNo) (requests : Requests) → numbered all f ≡ Some requests → new ≡ with_numbered functions f (function_of file requests) → new ≡ functions_of others all
    with_other f file requests at is =
        let these : Attachments = with_numbered files f file in
        let made : new ≡ functions_of these all = is ∙ sym (functions_with_file files all f file requests at) in
        made ∙ ap (λ (those : Attachments). functions_of those all) (sym (file_numbers_functions these all (length_numbered files f file ∙ as_many)) ∙ ap file_numbers (sym made) ∙ has)

    gives : (set : Files) (f : ℕ) (name : List ℕ) → Attaches set functions f name new → new ≡ functions_of others all
    gives set f name attaches = elim (numbered_cases all f) [
      | inl none ↦ absurd (false≢true (ap (λ o. option_map_or (λ (function : Function). is_none function.attached) o false) (sym (numbered_none files all as_many f none)) ∙ attaches.off))
      | inr some ↦
          let requests : Requests = some.0 in
          let off : file_of files f ≡ None =
          off_file (file_of files f) requests (ap (λ o. option_map_or (λ (function : Function). is_none function.attached) o false) (sym (numbered_functions files all as_many f requests some.1)) ∙ attaches.off) in
          let idle_here = numbered_all IsClearWhereIdle all f requests clear some.1 (nil_from_length requests.queue.requests (idle f requests some.1 off)) in
          let function : function_at functions f ≡ function_of None requests = function_at_functions files all as_many f requests some.1 ∙ ap (λ file. function_of file requests) off in
          let file : Option FileNo = Some (record { 0 = attaches.number }) in
          let given : attaches.given.after ≡ function_of file requests =
          attaches.given.becomes ∙ ap (λ (one : Function). attached_to one attaches.number) function ∙ ap (function_of file) (sym idle_here) in
          with_other f file requests some.1 (attaches.given.others ∙ ap (with_numbered functions f) given)
    ]

    attached : (set : Files) (f : ℕ) (name : List ℕ) (answer : HostAnswer) → AttachStep set functions f name answer new → new ≡ functions_of others all
    attached set f name said.NoFile step = as_before step.1
    attached set f name said.FunctionTaken step = as_before step.2
    attached set f name said.FileTaken step = as_before step.2
    attached set f name said.Ok step = gives set f name step
    attached set f name other step = absurd step

    taken : (f : ℕ) (answer : HostAnswer) → DetachStep functions f answer new → new ≡ functions_of others all
    taken f said.NotAttached step = as_before step.1
    taken f said.Queued step = as_before step.1
    taken f said.Ok step = elim (numbered_cases all f) [
      | inl none ↦ absurd (none-some step.0.attached (ap (option_and_then (λ (function : Function). function.attached)) (sym (numbered_none files all as_many f none)) ∙ step.0.on))
      | inr some ↦
          let requests : Requests = some.0 in
          let gone : step.1.after ≡ function_of None requests =
          step.1.becomes ∙ ap detached (function_at_functions files all as_many f requests some.1) ∙ ap (λ n. record { attached = None; next = n }) (next_as (file_of files f) requests) in
          with_other f None requests some.1 (step.1.others ∙ ap (with_numbered functions f) gone)
    ]
    taken f other step = absurd step

    -- so it is for each command
    pub functions_left : (blocks : ℕ) (set : Files) (command : HostCommand) (answer : HostAnswer) (changes : List Change) → IsForHost command → HostStep blocks set functions command answer changes new
        → new ≡ functions_of others all
    functions_left blocks set (Attach f name) answer changes here step = attached set f.0 name answer step.0
    functions_left blocks set (Detach f) answer changes here step = taken f.0 answer step.0
    functions_left blocks set Sync answer changes here step = absurd here
    functions_left blocks set (Regs f) answer changes here step = absurd here
    functions_left blocks set (Create name len) answer changes here step = as_before step.1
    functions_left blocks set (Delete name) answer changes here step = as_before step.1
    functions_left blocks set (Resize name len) answer changes here step = as_before step.1
    functions_left blocks set (Put name v from) answer changes here step = as_before step.1
    functions_left blocks set (Map name v n) answer changes here step = as_before step.1
    functions_left blocks set (Get name v into) answer changes here step = as_before step.1
