use Rattle.std.proofs.Common.{◌≡◌, replicate}
use Rattle.nesc_session.specs.Requests.{no_requests}
use Rattle.nesc_session.proofs.functions.new_requests.Given as goal

-- none waits so far
abbrev pub invariant-loop : goal.invariant-loop
invariant-loop l = l.requests.items ≡ replicate l.counter (no_requests l.most)
