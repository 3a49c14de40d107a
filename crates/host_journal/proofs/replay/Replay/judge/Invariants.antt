use Rattle.std.proofs.Common.{◌≡◌, ◌-◌, true}
use Rattle.slot_layout.specs.Slots.{AreOpen}
use Rattle.host_journal.specs.Replaying.{AreLaid, AreLow}
use Rattle.host_journal.specs.Sound.{IsReady}
use Rattle.host_journal.proofs.DiskReads.{HasRead}
use Rattle.host_journal.proofs.replay.Replay.judge.Given as goal

-- the first gates are open, and their slots are laid over
abbrev pub invariant-loop-k : goal.invariant-loop-k
invariant-loop-k g l = record {
  geometry : l.self.geometry ≡ l.initial.self.geometry;
  ready : IsReady l.self;
  low : AreLow l.initial.self.geometry l.self.sources.items;
  opened : (g.D.Disk.known l.initial.disk).tells ≡ true → AreOpen l.initial.self.geometry (g.D.Disk.known l.initial.disk).contents (l.k - 1);
  laid : (g.D.Disk.known l.initial.disk).tells ≡ true → AreLaid l.initial.self.geometry (g.D.Disk.known l.initial.disk).contents (l.k - 1) l.self.sources.items;
  reads : HasRead (g.D.Disk.known l.initial.disk) (g.D.Disk.known l.disk);
  keeps : g.D.Disk.keeps l.initial.disk l.disk;
}
