use Rattle.host_journal.proofs.Closing.{ClosesSome}
use Rattle.host_journal.proofs.replay.close_others.Given as goal

-- the first of them are closed
abbrev pub invariant-loop-k : goal.invariant-loop-k
invariant-loop-k g l = record {
  some : ClosesSome l.geometry l.opened l.k l.closed (g.D.Disk.known l.initial.disk) (g.D.Disk.known l.disk);
  keeps : g.D.Disk.keeps l.initial.disk l.disk;
}
