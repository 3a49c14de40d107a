use Rattle.std.proofs.Common.{◌<◌, ◌≤◌}
use Rattle.file_layer.proofs.SoFar.{GivesTo}
use Rattle.file_layer.proofs.files.Files.give_each.Given as goal

abbrev pub invariant-loop-at : goal.invariant-loop-at
invariant-loop-at l = record {
  so_far : GivesTo l.file.0 l.v l.end l.at l.touched.marks l.fn.self l.self;
  inside : l.v < l.at → l.at ≤ l.end;
}
