-- How many buffers are spare.
use Rattle.std.proofs.Common.{◌≡◌, ℕ, suc, ◌+◌, ◌*◌, ◌≤◌, List, [], ◌∷◌, length, slice_get, Some, refl, sym, ap, ◌∙◌, subst, arith}
use Rattle.std.proofs.lemmas.List.Sums.{sum_by-cons}
use Rattle.std.proofs.Math.Nat.{mul-add}
use Rattle.nesc_requests.specs.Buffers.{Spare, request_buffers}
use Rattle.nesc_requests.specs.declared.request.Queued.{Queued}
use Rattle.nesc_requests.specs.declared.request.Request.{Request}
use Rattle.nesc_requests.specs.declared.request.Request.TheVariants.{Read, Write, Flush}
use Rattle.script_lang.specs.Left.{Left, buffers_of}
use Rattle.nesc_session.specs.Buffers.{buffers_in, queue_buffers, waiting_buffers}
use Rattle.nesc_session.specs.Requests.{Requests}
use Rattle.nesc_session.specs.Resting.{IsSession}
use Rattle.nesc_session.specs.declared.session.Session.{Session}
use Rattle.nesc_monitor.specs.Steps.{HasBuffers}

request_one : (request : Request) → request_buffers request ≤ 1
request_one (Read v into) = omega arith
request_one (Write v from) = omega arith
request_one Flush = omega arith

queue_few : (queue : List Queued) → queue_buffers queue ≤ length queue
queue_few [] = omega arith
queue_few (head ∷ rest) = omega (arith, sum_by-cons (λ (queued : Queued). request_buffers queued.request) head rest, request_one head.request, queue_few rest)

-- where no more than so many requests wait for a function, these have no more for each
waiting_few : (most : ℕ) (all : List Requests) → ((i : ℕ) (requests : Requests) → slice_get all i ≡ Some requests → length requests.queue.requests ≤ most) → waiting_buffers all ≤ length all * most
waiting_few most [] few = omega arith
waiting_few most (first ∷ more) few =
    omega (arith, sum_by-cons (λ (requests : Requests). queue_buffers requests.queue.requests) first more, queue_few first.queue.requests, few 0 first refl, waiting_few most more (λ i. few (suc i)))

-- before a word is taken one is spare
pub one_spare : (commands : Left) (spare : Spare) (session : Session) → IsSession session → HasBuffers commands spare session → 1 ≤ spare.count
one_spare commands spare session sound has =
    let all = session.requests.items in
    let machine = commands.script.machine in
    let many : length all ≡ machine.functions = sound.functions ∙ ap (λ m. m.functions) has.machine in
    let queue : session.setting.machine.queue ≡ machine.queue = ap (λ m. m.queue) has.machine in
    let waiting : waiting_buffers all ≤ machine.functions * machine.queue =
    subst (λ (n : ℕ). waiting_buffers all ≤ n * machine.queue) many (waiting_few machine.queue all (λ i requests at. omega (arith, queue, (sound.few (suc i) requests at).within))) in
    omega (arith, waiting, has.all, has.few, mul-add machine.functions machine.queue 1)

-- behind a word they are where they were, but for those that went along with its event and its outcome
pub still_has : (old new : Left) (spare left : Spare) (before after : Session) → HasBuffers old spare before → after.setting ≡ before.setting → new.script.machine ≡ old.script.machine
    → new.kept ≤ new.script.machine.functions → new.kept + buffers_in after left ≡ old.kept + buffers_in before spare → left.room ≡ spare.room → HasBuffers new left after
still_has old new spare left before after has setting machine few all room =
    let as_many : buffers_of new.script.machine ≡ buffers_of old.script.machine = ap buffers_of machine in
    record { machine = ap (λ s. s.machine) setting ∙ has.machine ∙ sym machine; few = few; all = omega (arith, all, has.all, as_many); room = omega (arith, has.room, as_many, room) }
