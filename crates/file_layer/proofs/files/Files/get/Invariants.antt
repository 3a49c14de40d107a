use Rattle.std.proofs.Common.{◌≡◌, ℕ, ◌+◌, ◌<◌, ◌≤◌, List, Some, length, slice_get, true}
use Rattle.nesc_base.specs.declared.block.Block.{Block}
use Rattle.nesc_base.specs.Disk.{Goes, Unchanged}
use Rattle.nesc_base.specs.Files.{file_at}
use Rattle.nesc_base.specs.Places.{Places}
use Rattle.file_model.specs.Files.{read}
use Rattle.host_journal.specs.Kept.{IsKept}
use Rattle.file_layer.specs.Knowing.{FileSet}
use Rattle.file_layer.specs.Showing.{RestsOn, Shows}
use Rattle.file_layer.proofs.files.Files.get.Given as goal

-- the blocks so far are read, and the disk is as it was
abbrev pub invariant-loop-k : goal.invariant-loop-k
invariant-loop-k g l = record {
  rests : RestsOn l.self l.journal (g.D.Disk.known l.disk);
  whole : length l.into ≡ length l.initial.into;
  blocks : (g.D.Disk.known l.initial.disk).tells ≡ true → (kept : List Block) (set : FileSet) (places : Places) → IsKept l.journal.geometry (g.D.Disk.known l.initial.disk) kept
      → Shows l.self l.journal.staged kept set places → (j : ℕ) → j < l.k → slice_get l.into j ≡ Some (read (file_at set l.file.0) (l.v + j));
  never_falls : (g.D.Disk.known l.initial.disk).faults ≤ (g.D.Disk.known l.disk).faults;
  unchanged : Unchanged (g.D.Disk.known l.initial.disk) (g.D.Disk.known l.disk);
  goes : Goes (g.D.Disk.known l.initial.disk) (g.D.Disk.known l.disk);
  keeps : g.D.Disk.keeps l.initial.disk l.disk;
}
