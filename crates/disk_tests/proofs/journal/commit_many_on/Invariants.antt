use Rattle.std.proofs.Common.{◌≡◌}
use Rattle.nesc_base.specs.declared.geometry.Geometry.{Geometry}
use Rattle.nesc_fakes.specs.MemDisk.{known_of}
use Rattle.host_journal.specs.Kept.{Rests}
use Rattle.disk_tests.proofs.journal.commit_many_on.Given as goal

abbrev pub invariant-loop-k : goal.invariant-loop-k
invariant-loop-k l = Rests l.journal (known_of l.disk) × (l.journal.geometry ≡ record { version = 1; blocks = 256; slack = 256 })
