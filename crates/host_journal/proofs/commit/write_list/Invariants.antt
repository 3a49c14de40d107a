use Rattle.std.proofs.Common.{Ok, take}
use Rattle.host_journal.specs.Committing.{WritesOut, blocks_of_list, list_places}
use Rattle.host_journal.proofs.commit.write_list.Given as goal

-- the first blocks are written
abbrev pub invariant-loop-b : goal.invariant-loop-b
invariant-loop-b g l = record {
  writes_out : WritesOut (take l.b (list_places l.fn.geometry l.fn.targets)) (take l.b (blocks_of_list l.fn.targets)) (g.D.Disk.known l.initial.disk) (g.D.Disk.known l.disk) (Ok tt);
  keeps : g.D.Disk.keeps l.initial.disk l.disk;
}
