-- What a queue is once its first request was served, or has ended.
use Rattle.std.proofs.Common.{◌≡◌, ℕ, ◌+◌, ◌-◌, ◌<◌, ◌≤◌, true, false, List, [], ◌∷◌, length, Option, None, Some, refl, sym, ap, subst, ◌∙◌, arith}
use Rattle.std.specs.List.{AllByRecursion}
use Rattle.std.specs.Prelude.{is_some}
use Rattle.std.proofs.lemmas.Bool.{false≢true}
use Rattle.std.proofs.lemmas.Option.{none-some, same_Some}
use Rattle.nesc_base.specs.Files.{longest_file}
use Rattle.nesc_requests.specs.Buffers.{request_buffers}
use Rattle.nesc_requests.specs.Requests.{block_count, first_of, is_flush, is_write}
use Rattle.nesc_requests.specs.Script.{MayAsk}
use Rattle.nesc_requests.specs.declared.request.Kind.TheVariants.{Unmapped}
use Rattle.nesc_requests.specs.declared.request.Miss.{Miss}
use Rattle.nesc_requests.specs.declared.request.Queued.{Queued}
use Rattle.nesc_requests.specs.declared.request.Request.{Request}
use Rattle.nesc_requests.specs.declared.request.Request.TheVariants.{Flush, Read, Write}
use Rattle.request_queues.specs.Queue.{HasBlockToDo, Queue, first_request}
use Rattle.nesc_session.specs.Buffers.{queue_buffers}
use Rattle.nesc_session.specs.Requests.{IsSound, IsUnderWay, WaitsForHead, starts_with_flush}
use Rattle.nesc_session.proofs.Counted.{buffers_taken}

abbrev fit : List Queued → Type 0
fit = AllByRecursion (λ queued. MayAsk queued.request)

-- its first request and those behind it
pub record IsSplit (requests : List Queued) (request : Request) : Type 0 where
  pub head : Queued
  pub rest : List Queued
  pub split : requests ≡ head ∷ rest
  pub same : request ≡ head.request

pub split_first : (requests : List Queued) (request : Request) → first_request requests ≡ Some request → IsSplit requests request
split_first [] request first = absurd (none-some request first)
split_first (head ∷ rest) request first = record { head = head; rest = rest; split = refl; same = sym (same_Some head.request request first) }

-- it is no flush
pub first_has_blocks : (requests : List Queued) (request : Request) → first_request requests ≡ Some request → starts_with_flush requests ≡ false → is_flush request ≡ false
first_has_blocks [] request first blocks = absurd (none-some request first)
first_has_blocks (head ∷ rest) request first blocks = ap is_flush (sym (same_Some head.request request first)) ∙ blocks

-- and so one of its blocks is not done
pub first_not_done : (requests : List Queued) (request : Request) (done : ℕ) → first_request requests ≡ Some request → IsUnderWay done requests → 1 ≤ block_count request → done < block_count request
first_not_done [] request done first under_way some = absurd (none-some request first)
first_not_done (head ∷ rest) request done first under_way some = omega (arith, under_way, some, ap block_count (same_Some head.request request first))

-- the first request, the first of its blocks that are not done, and how many blocks it has
pub record IsFound (queue : Queue) (v blocks : ℕ) : Type 0 where
  pub head : Queued
  pub rest : List Queued
  pub split : queue.requests ≡ head ∷ rest
  pub at : v ≡ first_of head.request + queue.done
  pub counted : blocks ≡ block_count head.request
  pub for_blocks : is_flush head.request ≡ false
  pub more : queue.done < block_count head.request

pub found_first : (queue : Queue) (request : Request) → first_request queue.requests ≡ Some request → IsUnderWay queue.done queue.requests → starts_with_flush queue.requests ≡ false
    → (first done blocks : ℕ) → first ≡ first_of request → done ≡ queue.done → blocks ≡ block_count request → (is_flush request ≡ false → 1 ≤ blocks) → IsFound queue (first + done) blocks
found_first queue request is under_way no_flush first done blocks first_is done_is counted some =
    let split = split_first queue.requests request is in
    let for_blocks = first_has_blocks queue.requests request is no_flush in
    let same_count = ap block_count split.same in
    let more = first_not_done queue.requests request queue.done is under_way (omega (arith, some for_blocks, counted)) in
    record {
      head = split.head;
      rest = split.rest;
      split = split.split;
      at = (λ i. first_is i + done_is i) ∙ ap (λ (r : Request). first_of r + queue.done) split.same;
      counted = counted ∙ same_count;
      for_blocks = ap is_flush (sym split.same) ∙ for_blocks;
      more = omega (arith, more, same_count);
    }

-- what the queue is then, and that so many buffers have left it
pub record StaysSound (old new : Queue) (waiting : Option Miss) (left : ℕ) : Type 0 where
  pub sound : IsSound new waiting
  pub depth : new.depth ≡ old.depth
  pub few : length new.requests ≤ length old.requests
  pub buffers : queue_buffers new.requests + left ≡ queue_buffers old.requests

module _ (old : Queue) (waits : Option Miss) (was : IsSound old waits) (head : Queued) (rest : List Queued) (split : old.requests ≡ head ∷ rest)
    (later : Request) (same_buffers : request_buffers later ≡ request_buffers head.request) (new : Queue) where
  count : queue_buffers rest + request_buffers head.request ≡ queue_buffers old.requests
  count = buffers_taken old.requests rest head split

  count_later : queue_buffers ((record head { request = later }) ∷ rest) ≡ queue_buffers old.requests
  count_later = let then = buffers_taken ((record head { request = later }) ∷ rest) rest (record head { request = later }) refl in omega (arith, count, same_buffers, then)

  -- the request has ended
  pub sound_ended : new ≡ record old { requests = rest; done = 0 } → (left : ℕ) → left ≡ request_buffers later → StaysSound old new None left
  sound_ended is left left_is = subst (λ (q : Queue). StaysSound old q None left) (sym is)
      (record {
        sound = record { fit = (subst fit split was.fit).1; under_way = none_done rest; waits = tt };
        depth = refl;
        few = omega (arith, ap length split);
        buffers = omega (arith, count, left_is, same_buffers);
      })
    where
      none_done : (requests : List Queued) → IsUnderWay 0 requests
      none_done [] = refl
      none_done (first ∷ others) = omega arith

  -- one more of its blocks is done
  pub sound_more : (MayAsk head.request → MayAsk later) → old.done + 1 < block_count later → new ≡ record old { requests = (record head { request = later }) ∷ rest; done = old.done + 1 }
      → (left : ℕ) → left ≡ 0 → StaysSound old new None left
  sound_more may more is left left_is = subst (λ (q : Queue). StaysSound old q None left) (sym is)
      (record {
        sound = record { fit = let (own, others) = subst fit split was.fit in (may own, others); under_way = omega (arith, more); waits = tt };
        depth = refl;
        few = omega (arith, ap length split);
        buffers = omega (arith, count_later, left_is);
      })

  -- it is waited for
  pub sound_missed : later ≡ head.request → is_write head.request ≡ true → old.done < block_count head.request → new ≡ record old { requests = (record head { request = later }) ∷ rest }
      → (miss : Miss) (v : ℕ) → v ≡ first_of head.request + old.done → v < longest_file → miss ≡ record { v = v; n = block_count head.request - old.done; kind = Unmapped }
      → (left : ℕ) → left ≡ 0 → StaysSound old new (Some miss) left
  sound_missed same write more is miss v at below miss_is left left_is =
      subst (λ (q : Queue). StaysSound old q (Some miss) left) (sym (is ∙ (λ i. record old { requests = (record head { request = same i }) ∷ rest })))
      (subst (λ (m : Miss). StaysSound old (record old { requests = head ∷ rest }) (Some m) left) (sym miss_is)
      (record {
        sound = record { fit = subst fit split was.fit; under_way = omega (arith, more); waits = (write, at, refl, below) };
        depth = refl;
        few = omega (arith, ap length split);
        buffers = omega (arith, ap queue_buffers split, left_is);
      }))

-- a block of the request is not done, whatever was read into it
pub still_to_do : (old : Queue) (head : Queued) (rest : List Queued) (later : Request) (new : Queue) → new ≡ record old { requests = (record head { request = later }) ∷ rest }
    → old.done < block_count later → HasBlockToDo new
still_to_do old head rest later new is more = subst HasBlockToDo (sym is) more

-- Where a request is waited for, and where it is a flush

-- it is there
pub head_waited_for : (requests : List Queued) (done : ℕ) (waiting : Option Miss) → WaitsForHead waiting done requests → is_some waiting ≡ true
    → (head : Queued) × (rest : List Queued) × (requests ≡ head ∷ rest)
head_waited_for requests done None waits some = absurd (false≢true some)
head_waited_for [] done (Some miss) waits some = absurd waits
head_waited_for (head ∷ rest) done (Some miss) waits some = (head, rest, refl)

pub head_flush : (requests : List Queued) → starts_with_flush requests ≡ true → (head : Queued) × (rest : List Queued) × (requests ≡ head ∷ rest) × (is_flush head.request ≡ true)
head_flush [] flush = absurd (false≢true flush)
head_flush (head ∷ rest) flush = (head, rest, refl, flush)

-- none of a flush is done
pub flush_not_begun : (request : Request) (done : ℕ) → is_flush request ≡ true → done ≤ block_count request - 1 → done ≡ 0
flush_not_begun (Read v into) done flush under_way = absurd (false≢true flush)
flush_not_begun (Write v from) done flush under_way = absurd (false≢true flush)
flush_not_begun Flush done flush under_way = omega (arith, under_way)
