-- The requests that wait for one function, in the order in which they came.
use Rattle.std.specs.Prelude.{◌≡◌, ℕ, ◌+◌, ◌<◌, ◌≤◌, List, [], ◌∷◌, ◌++◌, length, drop, slice_set}
use Rattle.std.specs.Prelude.{Option, None, Some, IsSomeAnd}
use Rattle.circular_buffer.specs.Buffer.{Buffer}
use Rattle.nesc_base.specs.Count.{risen}
use Rattle.nesc_base.specs.declared.block.Block.{Block}
use Rattle.nesc_requests.specs.Requests.{block_count}
use Rattle.nesc_requests.specs.declared.request.Queued.{Queued}
use Rattle.nesc_requests.specs.declared.request.Request.{Request}
use Rattle.nesc_requests.specs.declared.request.Request.TheVariants.{Flush, Read, Write}

-- how many requests may wait, those that do with their numbers, how many blocks of the first of them are done, and the
-- number that the next one gets
pub record Queue : Type 0 where
  pub depth : ℕ
  pub requests : List Queued
  pub done : ℕ
  pub next : ℕ

-- Of the first request no more blocks are done than it has, and none where there is no first.
abbrev pub MayBeDone : List Queued → ℕ → Type 0
MayBeDone [] done = done ≡ 0
MayBeDone (head ∷ rest) done = done ≤ block_count head.request

-- the number that follows on those of the requests before it
abbrev pub first_number : List Queued → ℕ → ℕ
first_number [] next = next
first_number (head ∷ rest) next = head.id

-- The numbers rise by one from request to request, and so on to the next; they stand still at the end of their type.
abbrev pub AreRising : List Queued → ℕ → Type 0
AreRising [] next = Unit {0}
AreRising (head ∷ rest) next = (first_number rest next ≡ risen head.id) × AreRising rest next

-- as it is kept in memory
abbrev pub queue_of : Buffer Queued → ℕ → ℕ → Queue
queue_of buffer count number = record { depth = buffer.capacity; requests = buffer.items; done = count; next = number }

-- what each queue is
pub record IsQueue (queue : Queue) : Type 0 where
  pub shallow : queue.depth < 256
  pub within : length queue.requests ≤ queue.depth
  pub under_way : MayBeDone queue.requests queue.done
  pub rising : AreRising queue.requests queue.next

-- The first request

abbrev pub first_request : List Queued → Option Request
first_request [] = None
first_request (head ∷ rest) = Some head.request

-- it has a block that is not done
abbrev pub HasBlockToDo : Queue → Type 0
HasBlockToDo queue = IsSomeAnd (first_request queue.requests) (λ request. queue.done < block_count request)

-- how many blocks a request reads
abbrev pub read_count : Request → ℕ
read_count (Read v into) = length into
read_count (Write v from) = 0
read_count Flush = 0

-- it is a read, and has a block that is not done
abbrev pub HasBlockToRead : Queue → Type 0
HasBlockToRead queue = IsSomeAnd (first_request queue.requests) (λ request. queue.done < read_count request)

-- its number, how many of its blocks are done, and the request
abbrev pub first_of_all : List Queued → ℕ → Option (ℕ × ℕ × Request)
first_of_all [] done = None
first_of_all (head ∷ rest) done = Some (head.id, done, head.request)

-- What a queue becomes

-- at first
abbrev pub empty_queue : ℕ → Queue
empty_queue depth = record { depth = depth; requests = []; done = 0; next = 1 }

-- with one request more, behind the others
abbrev pub with_request : Queue → Request → Queue
with_request queue request = record queue {
  requests = queue.requests ++ (record { id = queue.next; request = request }) ∷ [];
  next = risen queue.next;
}

-- with one more block of the first request done
abbrev pub with_served : Queue → Queue
with_served queue = record queue { done = queue.done + 1 }

-- a read with this block in place of the one of a number
abbrev pub with_block : Request → ℕ → Block → Request
with_block (Read v into) k block = Read v (slice_set into k block)
with_block (Write v from) k block = Write v from
with_block Flush k block = Flush

abbrev pub with_first_block : List Queued → ℕ → Block → List Queued
with_first_block [] k block = []
with_first_block (head ∷ rest) k block = (record head { request = with_block head.request k block }) ∷ rest

-- with this block in place of the first request's next
abbrev pub with_read : Queue → Block → Queue
with_read queue block = record queue { requests = with_first_block queue.requests queue.done block }

-- without the first request
abbrev pub without_first : Queue → Queue
without_first queue = record queue { requests = drop 1 queue.requests; done = 0 }

-- without any; the numbers go on
abbrev pub emptied : Queue → Queue
emptied queue = record queue { requests = []; done = 0 }
