use Rattle.std.proofs.Common.{◌-◌, Ok}
use Rattle.std.specs.List.{range_with_len}
use Rattle.image_tools.specs.Make.{Clears}
use Rattle.image_tools.proofs.making.clear_run.Given as goal

-- the first blocks are zeros
abbrev pub invariant-loop-at : goal.invariant-loop-at
invariant-loop-at g l = record {
  clears : Clears (range_with_len l.fn.from (l.at - l.fn.from)) (g.D.Disk.known l.initial.disk) (g.D.Disk.known l.disk) (Ok tt);
  keeps : g.D.Disk.keeps l.initial.disk l.disk;
}
