-- For which functions requests wait, and which of them wait, by a bit for each.
use Rattle.std.proofs.Common.{◌≡◌, ℕ, suc, ◌+◌, ◌*◌, ◌<◌, not, Bool, true, false, List, [], ◌∷◌, length, get_or, map, is_some, refl, sym, ap, ◌∙◌, arith}
use Rattle.std.specs.Prelude.{if◌then◌else◌}
use Rattle.std.specs.Int.{bit_at}
use Rattle.std.specs.List.{All}
use Rattle.std.proofs.lemmas.List.{get_or-map}
use Rattle.std.proofs.lemmas.List.Elements.{All-head, All-tail}
use Rattle.std.proofs.lemmas.Option.{slice_get-get_or}
use Rattle.hypervisor.specs.Attachments.{AreQueued, Attachments, file_of}
use Rattle.plain_machine.specs.Functions.{function_at, is_empty, pending, queue_of}
use Rattle.nesc_session.specs.Requests.{IsClearWhereIdle, Requests, functions_of, no_requests}
use Rattle.nesc_session.specs.Resting.{IsIdleWhereOff}
use Rattle.nesc_session.proofs.Bits.{bit_at-number_of, bit_of, number_of}
use Rattle.nesc_session.proofs.Idle.{idle_rest, queue_as, waiting_as}
use Rattle.nesc_session.proofs.MadeFunctions.{function_at_functions, length_functions}

abbrev pub waits : Requests → Bool
waits requests = is_some requests.waiting

abbrev pub is_queued : Requests → Bool
is_queued requests = not (is_empty requests.queue.requests)

one_if : (b : Bool) → (if b then 1 else 0) ≡ bit_of b
one_if true = refl
one_if false = refl

none_if : (b : Bool) → bit_of (not b) ≡ (if b then 0 else 1)
none_if true = refl
none_if false = refl

-- which functions wait
pub pending_functions : (files : Attachments) (all : List Requests) → length files ≡ length all → IsIdleWhereOff files all → All IsClearWhereIdle all
    → pending (functions_of files all) ≡ number_of (map waits all)
pending_functions [] [] as_many idle clear = refl
pending_functions [] (requests ∷ all) as_many idle clear = absurd (omega arith)
pending_functions (file ∷ files) [] as_many idle clear = refl
pending_functions (file ∷ files) (requests ∷ all) as_many idle clear =
    let here = waiting_as file requests (idle 1 requests refl) (All-head IsClearWhereIdle requests all clear) in
    let rest = pending_functions files all (omega arith) (idle_rest file files requests all idle) (All-tail IsClearWhereIdle requests all clear) in
    (λ i. (if is_some (here i) then 1 else 0) + 2 * rest i) ∙ ap (λ n. n + 2 * number_of (map waits all)) (one_if (waits requests))

-- for which functions requests wait
pub queued_functions : (files : Attachments) (all : List Requests) (bits : ℕ) → length files ≡ length all → IsIdleWhereOff files all → bits ≡ number_of (map is_queued all)
    → AreQueued bits (functions_of files all)
queued_functions files all bits as_many idle are k below =
    let within : k < length all = omega (arith, length_functions files all as_many) in
    let requests = get_or all k (no_requests 0) in
    let next : suc k ≡ k + 1 = omega arith in
    let at = slice_get-get_or all k (no_requests 0) within in
    let queue : queue_of (function_at (functions_of files all) (suc k)) ≡ requests.queue.requests =
    ap queue_of (function_at_functions files all as_many (suc k) requests at) ∙ queue_as (file_of files (suc k)) requests (idle (suc k) requests at) in
    ap (λ n. bit_at n k) are
    ∙ bit_at-number_of (map is_queued all) k
    ∙ ap bit_of (get_or-map is_queued all k (no_requests 0) false within)
    ∙ none_if (is_empty requests.queue.requests)
    ∙ ap (λ queue. if is_empty queue then 0 else 1) (sym queue ∙ ap (λ f. queue_of (function_at (functions_of files all) f)) next)
