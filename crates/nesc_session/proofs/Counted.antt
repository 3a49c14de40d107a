-- How many buffers of blocks the requests have that wait, as they come and go.
use Rattle.std.proofs.Common.{◌≡◌, ℕ, ◌+◌, ◌<◌, ◌≤◌, List, [], ◌∷◌, length, map, slice_index_or, refl, ap, arith}
use Rattle.std.specs.Prelude.{slice_set}
use Rattle.std.proofs.lemmas.List.Sums.{get_or-le-sum_by, sum_by-cons, sum_by-set}
use Rattle.nesc_requests.specs.Buffers.{request_buffers}
use Rattle.nesc_requests.specs.declared.request.Queued.{Queued}
use Rattle.nesc_session.specs.Buffers.{queue_buffers, waiting_buffers}
use Rattle.nesc_session.specs.Requests.{Requests, cleared}

-- Those of one function

-- the first is taken
pub buffers_taken : (old rest : List Queued) (head : Queued) → old ≡ head ∷ rest → queue_buffers rest + request_buffers head.request ≡ queue_buffers old
buffers_taken old rest head is = omega (arith, ap queue_buffers is, sum_by-cons (λ (queued : Queued). request_buffers queued.request) head rest)

-- Those of all functions

-- as many come and go for all as for the one that changes
pub buffers_with : (all : List Requests) (index : ℕ) (old new : Requests) (came went : ℕ) → index < length all → old ≡ slice_index_or all index old
    → queue_buffers new.queue.requests + went ≡ queue_buffers old.queue.requests + came → waiting_buffers (slice_set all index new) + went ≡ waiting_buffers all + came
buffers_with all index old new came went within is one =
    let other = sum_by-set (λ (requests : Requests). queue_buffers requests.queue.requests) all index new old within in
    let same = ap (λ (requests : Requests). queue_buffers requests.queue.requests) is in
    omega (arith, one, other, same)

-- one has no more than all
pub buffers_among : (all : List Requests) (index : ℕ) (one : Requests) → index < length all → one ≡ slice_index_or all index one → queue_buffers one.queue.requests ≤ waiting_buffers all
buffers_among all index one within is =
    let among = get_or-le-sum_by (λ (requests : Requests). queue_buffers requests.queue.requests) all index one within in
    let same = ap (λ (requests : Requests). queue_buffers requests.queue.requests) is in
    omega (arith, among, same)

-- and those that are cleared have none
pub buffers_cleared : (all : List Requests) → waiting_buffers (map cleared all) ≡ 0
buffers_cleared [] = refl
buffers_cleared (requests ∷ all) =
    let first = sum_by-cons (λ (requests : Requests). queue_buffers requests.queue.requests) (cleared requests) (map cleared all) in
    let others = buffers_cleared all in
    omega (arith, first, others)
