use Rattle.std.proofs.Common.{◌≡◌, ◌≤◌, vec_len}
use Rattle.std.specs.Prelude.{vec_capacity}
use Rattle.nesc_requests.proofs.buffers.Buffers.new.Given as goal

-- so many buffers so far, and there is room for all
abbrev pub invariant-loop : goal.invariant-loop
invariant-loop l = record {
  count : vec_len l.spare ≡ l.counter;
  room : l.count ≤ vec_capacity l.spare;
}
