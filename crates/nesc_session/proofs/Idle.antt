-- A function without a file has no requests, and the function that it makes with those is as if it had them.
use Rattle.std.proofs.Common.{◌≡◌, ℕ, zero, suc, ◌≤◌, not, ◌&&◌, false, List, [], ◌∷◌, length, map, replicate, Option, None, Some, inl, inr, is_none, option_map, refl, sym, ap, ◌∙◌, subst, arith}
use Rattle.std.specs.Prelude.{unwrap_or}
use Rattle.std.proofs.lemmas.Bool.{cases_eq}
use Rattle.std.proofs.lemmas.List.{nil_from_length}
use Rattle.std.proofs.lemmas.Option.{none-some, same_Some}
use Rattle.request_queues.specs.Queue.{Queue}
use Rattle.nesc_base.specs.declared.numbers.FileNo.{FileNo}
use Rattle.nesc_requests.specs.declared.request.Miss.{Miss}
use Rattle.nesc_requests.specs.declared.request.Queued.{Queued}
use Rattle.nesc_requests.specs.Script.{numbered, with_numbered}
use Rattle.hypervisor.specs.Attachments.{Attachments, file_of}
use Rattle.hypervisor.proofs.Numbering.{numbered_map, numbered_other, numbered_same, numbered_within}
use Rattle.plain_machine.specs.Functions.{is_empty, is_ready, queue_of, waiting_of}
use Rattle.nesc_session.specs.Requests.{IsClearWhereIdle, IsSound, IsUnderWay, Requests, WaitsForHead, cleared, function_of, is_ready_for, no_requests}
use Rattle.nesc_session.specs.Resting.{IsIdleWhereOff}
use Rattle.nesc_session.proofs.Items.{each_with, numbered_cases, numbered_replicate, with_none}

pub some_queued : (queue : List Queued) → 1 ≤ length queue → is_empty queue ≡ false
some_queued [] some = absurd (omega arith)
some_queued (head ∷ rest) some = refl

-- no request waits where there is no file
abbrev pub IsIdleIfOff : Option FileNo → Requests → Type 0
IsIdleIfOff file requests = file ≡ None → length requests.queue.requests ≡ 0

pub queue_as : (file : Option FileNo) (requests : Requests) → IsIdleIfOff file requests → queue_of (function_of file requests) ≡ requests.queue.requests
queue_as None requests idle = sym (nil_from_length requests.queue.requests (idle refl))
queue_as (Some file) requests idle = refl

pub ready_as : (file : Option FileNo) (requests : Requests) → IsIdleIfOff file requests → is_ready (function_of file requests).attached ≡ is_ready_for requests
ready_as None requests idle = ap (λ queue. not (is_empty queue) && is_none requests.waiting) (sym (nil_from_length requests.queue.requests (idle refl)))
ready_as (Some file) requests idle = refl

-- it waits for nothing then
pub waiting_as : (file : Option FileNo) (requests : Requests) → IsIdleIfOff file requests → IsClearWhereIdle requests → waiting_of (function_of file requests) ≡ requests.waiting
waiting_as None requests idle clear = sym (ap (λ (requests : Requests). requests.waiting) (clear (nil_from_length requests.queue.requests (idle refl))))
waiting_as (Some file) requests idle clear = refl

-- as it is kept in memory, it is clear where it is idle
pub clear_sound : (queue : Queue) (waiting : Option Miss) → IsSound queue waiting → IsClearWhereIdle (record { queue = queue; waiting = waiting })
clear_sound queue waiting sound empty =
    let none = subst (IsUnderWay queue.done) empty sound.under_way in
    let nothing = waits_for_none waiting queue.done (subst (WaitsForHead waiting queue.done) empty sound.waits) in
    λ i. record { queue = record queue { requests = empty i; done = none i }; waiting = nothing i }
  where
    waits_for_none : (waiting : Option Miss) (done : ℕ) → WaitsForHead waiting done [] → waiting ≡ None
    waits_for_none None done waits = refl
    waits_for_none (Some miss) done waits = absurd waits

-- All of them

pub idle_rest : (file : Option FileNo) (files : Attachments) (requests : Requests) (all : List Requests) → IsIdleWhereOff (file ∷ files) (requests ∷ all) → IsIdleWhereOff files all
idle_rest file files requests all idle zero one is off = absurd (none-some one is)
idle_rest file files requests all idle (suc i) one is off = idle (suc (suc i)) one is off

-- other requests of one function, which has none if it has no file
pub idle_with : (files : Attachments) (all : List Requests) (f : ℕ) (requests : Requests) → IsIdleIfOff (file_of files f) requests → IsIdleWhereOff files all → IsIdleWhereOff files (with_numbered all f requests)
idle_with files all f requests here idle = each_with (λ g one. IsIdleIfOff (file_of files g) one) all f requests here idle

-- another file of one function, or none if it has no requests
pub idle_with_file : (files : Attachments) (all : List Requests) (f : ℕ) (file : Option FileNo) → ((requests : Requests) → numbered all f ≡ Some requests → IsIdleIfOff file requests)
    → IsIdleWhereOff files all → IsIdleWhereOff (with_numbered files f file) all
idle_with_file files all f file here idle g requests at off = elim (cases_eq g f) [
  | inl same ↦ elim (numbered_cases files f) [
    | inl none ↦ idle g requests at (ap (λ those. file_of those g) (sym (with_none files f file none)) ∙ off)
    | inr some ↦
        let within = numbered_within files f some.0 some.1 in
        let stands = ap (λ o. unwrap_or o None) (numbered_same files f file within.0 within.1) in
        here requests (ap (numbered all) (sym same) ∙ at) (sym stands ∙ ap (file_of (with_numbered files f file)) (sym same) ∙ off)
  ]
  | inr apart ↦ idle g requests at (sym (ap (λ o. unwrap_or o None) (numbered_other files f g file apart)) ∙ off)
]

-- where no function has any
idle_if_none : (files : Attachments) (all : List Requests) → ((f : ℕ) (requests : Requests) → numbered all f ≡ Some requests → requests.queue.requests ≡ []) → IsIdleWhereOff files all
idle_if_none files all none f requests at off = ap length (none f requests at)

pub idle_cleared : (files : Attachments) (all : List Requests) → IsIdleWhereOff files (map cleared all)
idle_cleared files all = idle_if_none files (map cleared all) (λ f requests at. none (numbered all f) requests (sym (numbered_map cleared all f) ∙ at))
  where
    none : (o : Option Requests) (requests : Requests) → option_map cleared o ≡ Some requests → requests.queue.requests ≡ []
    none None requests is = absurd (none-some requests is)
    none (Some old) requests is = ap (λ (one : Requests). one.queue.requests) (sym (same_Some (cleared old) requests is))

pub idle_at_start : (files : Attachments) (n most : ℕ) → IsIdleWhereOff files (replicate n (no_requests most))
idle_at_start files n most = idle_if_none files (replicate n (no_requests most)) (λ f requests at. ap (λ (one : Requests). one.queue.requests) (numbered_replicate n (no_requests most) f requests at))
