use Rattle.std.proofs.Common.{◌≡◌, ◌+◌, length}
use Rattle.nesc_session.specs.Buffers.{queue_buffers}
use Rattle.nesc_session.proofs.requests.Requests.clear.Given as goal

-- the buffers of those that have left are spare
abbrev pub invariant-loop-request : goal.invariant-loop-request
invariant-loop-request l = record {
  buffers : queue_buffers l.self-inside.queue.requests + l.spare.count ≡ queue_buffers l.fn.self.queue.requests + l.fn.spare.count;
  room : l.spare.room ≡ l.fn.spare.room;
  depth : l.self-inside.queue.depth ≡ l.fn.self.queue.depth;
  next : l.self-inside.queue.next ≡ l.fn.self.queue.next;
}

abbrev pub decreases-loop-request : goal.decreases-loop-request
decreases-loop-request l = length l.self-inside.queue.requests
