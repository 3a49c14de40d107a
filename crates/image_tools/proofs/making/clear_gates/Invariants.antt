use Rattle.std.proofs.Common.{◌-◌, Ok, map}
use Rattle.std.specs.List.{range_with_len}
use Rattle.nesc_base.specs.Geometry.{slot_at}
use Rattle.image_tools.specs.Make.{Clears}
use Rattle.image_tools.proofs.making.clear_gates.Given as goal

-- the first gates are closed
abbrev pub invariant-loop-k : goal.invariant-loop-k
invariant-loop-k g l = record {
  clears : Clears (map (slot_at l.fn.geometry) (range_with_len 1 (l.k - 1))) (g.D.Disk.known l.initial.disk) (g.D.Disk.known l.disk) (Ok tt);
  keeps : g.D.Disk.keeps l.initial.disk l.disk;
}
