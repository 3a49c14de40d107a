use Rattle.std.proofs.Common.{[], Contains, take}
use Rattle.std.specs.Bool.{Decides}
use Rattle.nesc_fakes.specs.MemDisk.{unsynced}
use Rattle.nesc_fakes.proofs.mem_disk.MemDisk.is_unsynced.Given as goal

abbrev pub invariant-loop-call : goal.invariant-loop-call
invariant-loop-call l = Decides l.unsynced (Contains (unsynced l.k (take l.call-index l.call-items) []) l.at)
