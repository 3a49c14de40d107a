use Rattle.std.proofs.Common.{◌≡◌, map}
use Rattle.std.specs.List.{range_with_len}
use Rattle.extent_node.specs.Words.{entry_at}
use Rattle.extent_node.proofs.read.entries_in.Given as goal

abbrev pub invariant-loop-k : goal.invariant-loop-k
invariant-loop-k l = l.entries ≡ map (entry_at l.words) (range_with_len 0 l.k)
