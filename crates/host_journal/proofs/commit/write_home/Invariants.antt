use Rattle.std.proofs.Common.{Ok, take}
use Rattle.host_journal.specs.Committing.{WritesOut}
use Rattle.host_journal.specs.Staged.{fresh_of}
use Rattle.host_journal.proofs.commit.write_home.Given as goal

-- the first blocks are written
abbrev pub invariant-loop-at : goal.invariant-loop-at
invariant-loop-at g l = record {
  writes_out : WritesOut (take l.at-index l.fn.targets) (take l.at-index (fresh_of l.fn.staged.staged)) (g.D.Disk.known l.initial.disk) (g.D.Disk.known l.disk) (Ok tt);
  keeps : g.D.Disk.keeps l.initial.disk l.disk;
}
