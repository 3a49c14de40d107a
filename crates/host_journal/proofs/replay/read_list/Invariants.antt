use Rattle.std.proofs.Common.{◌≡◌, ◌+◌, ◌<◌, ℕ, length, slice_get, true}
use Rattle.host_journal.proofs.DiskReads.{HasRead}
use Rattle.host_journal.proofs.replay.read_list.Given as goal

-- the first blocks are read
abbrev pub invariant-loop-b : goal.invariant-loop-b
invariant-loop-b g l = record {
  long : length l.list ≡ length l.initial.list;
  read : (g.D.Disk.known l.initial.disk).tells ≡ true → (i : ℕ) → i < l.b → slice_get l.list i ≡ slice_get (g.D.Disk.known l.initial.disk).contents (l.list_at + i);
  reads : HasRead (g.D.Disk.known l.initial.disk) (g.D.Disk.known l.disk);
  keeps : g.D.Disk.keeps l.initial.disk l.disk;
}
