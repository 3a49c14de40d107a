use Rattle.std.proofs.Common.{Ok, length, take}
use Rattle.host_journal.specs.Committing.{WritesOut, data_places}
use Rattle.host_journal.specs.Staged.{fresh_of}
use Rattle.host_journal.proofs.commit.write_slot.Given as goal

-- the first blocks are written
abbrev pub invariant-loop-i : goal.invariant-loop-i
invariant-loop-i g l = record {
  writes_out : WritesOut (take l.i (data_places l.fn.geometry (length l.fn.targets))) (take l.i (fresh_of l.fn.staged.staged)) (g.D.Disk.known l.initial.disk) (g.D.Disk.known l.disk) (Ok tt);
  keeps : g.D.Disk.keeps l.initial.disk l.disk;
}
