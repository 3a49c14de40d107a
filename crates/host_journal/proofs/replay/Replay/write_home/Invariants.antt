use Rattle.host_journal.proofs.Homing.{BringsSome}
use Rattle.host_journal.proofs.replay.Replay.write_home.Given as goal

-- the blocks for the first places are home
abbrev pub invariant-loop-i : goal.invariant-loop-i
invariant-loop-i g l = record {
  some : BringsSome l.self.geometry l.self.sources.items l.i (g.D.Disk.known l.initial.disk) (g.D.Disk.known l.disk);
  keeps : g.D.Disk.keeps l.initial.disk l.disk;
}
