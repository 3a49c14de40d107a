use Rattle.std.proofs.Common.{◌≡◌, ◌-◌, ◌<◌, ◌≤◌, ℕ, length, slice_get, Some, true}
use Rattle.slot_layout.specs.Gate.{is_open}
use Rattle.slot_layout.specs.Slots.{gate}
use Rattle.host_journal.proofs.DiskReads.{HasRead}
use Rattle.host_journal.proofs.replay.read_gates.Given as goal

-- it is known of the first gates whether they are open
abbrev pub invariant-loop-k : goal.invariant-loop-k
invariant-loop-k g l = record {
  long : length l.opened ≡ 4;
  each : (g.D.Disk.known l.initial.disk).tells ≡ true → (i : ℕ) → 1 ≤ i → i < l.k → slice_get l.opened (i - 1) ≡ Some (is_open (gate l.geometry (g.D.Disk.known l.initial.disk).contents i));
  reads : HasRead (g.D.Disk.known l.initial.disk) (g.D.Disk.known l.disk);
  keeps : g.D.Disk.keeps l.initial.disk l.disk;
}
