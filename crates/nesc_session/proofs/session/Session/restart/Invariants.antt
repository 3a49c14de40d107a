use Rattle.std.proofs.Common.{◌≡◌, ◌+◌}
use Rattle.nesc_session.specs.Buffers.{buffers_in, waiting_buffers}
use Rattle.nesc_session.proofs.Cleared.{AreCleared}
use Rattle.nesc_session.proofs.session.Session.restart.Given as goal

-- the first so many are cleared, and their buffers are spare
abbrev pub invariant-loop-requests : goal.invariant-loop-requests
invariant-loop-requests g l = record {
  cleared : AreCleared l.initial.requests-items l.requests-items l.requests-index;
  buffers : waiting_buffers l.requests-items + l.spare.count ≡ buffers_in l.fn.self l.fn.spare;
  room : l.spare.room ≡ l.fn.spare.room;
}
