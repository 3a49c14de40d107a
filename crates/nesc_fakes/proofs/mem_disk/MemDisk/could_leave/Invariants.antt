use Rattle.std.proofs.Common.{[]}
use Rattle.nesc_fakes.specs.MemDisk.{contents_at, unsynced}
use Rattle.nesc_fakes.proofs.Leavable.{IsImageBelow}
use Rattle.nesc_fakes.proofs.mem_disk.MemDisk.could_leave.Given as goal

abbrev pub invariant-loop-i : goal.invariant-loop-i
invariant-loop-i l = IsImageBelow (contents_at l.self l.k) (unsynced l.k l.self.calls []) l.image l.i
