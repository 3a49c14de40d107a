-- The first numbers stand in the list, from the highest on.
use Rattle.std.proofs.Common.{◌≡◌, ◌≤◌, ℕ, ◌-◌, ◌<◌, Some, length, slice_get, vec_capacity}
use Rattle.host_memory.proofs.node_pool.name_all.Given as goal

abbrev pub invariant-loop-k : goal.invariant-loop-k
invariant-loop-k l = record {
  as_many : length l.free.items ≡ l.k;
  each : (j : ℕ) → j < l.k → slice_get l.free.items j ≡ Some (l.nodes - 1 - j);
  room : l.nodes ≤ vec_capacity l.free;
}
