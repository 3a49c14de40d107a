use Rattle.std.proofs.Common.{◌<◌, ◌≤◌}
use Rattle.file_layer.proofs.SoFar.{HoldsTo}
use Rattle.file_layer.proofs.files.Files.hold_each.Given as goal

abbrev pub invariant-loop-at : goal.invariant-loop-at
invariant-loop-at l = record {
  so_far : HoldsTo l.file.0 l.v l.at l.count l.touched.marks l.fn.self l.self l.fn.journal l.journal;
  inside : l.v < l.at → l.at ≤ l.end;
}
