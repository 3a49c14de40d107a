use Rattle.std.proofs.Common.{◌≡◌, ◌≤◌}
use Rattle.nesc_base.specs.Disk.{Goes, Unchanged}
use Rattle.host_journal.specs.Kept.{Rests}
use Rattle.file_layer.specs.Loading.{IsMapOf, MapLoads}
use Rattle.file_layer.proofs.files.Files.load_map.Given as goal

-- the map blocks so far are loaded, and the disk is as it was
abbrev pub invariant-loop-b : goal.invariant-loop-b
invariant-loop-b g l = record {
  loads : MapLoads l.fn.self.geometry l.journal (g.D.Disk.known l.fn.disk) l.fn.self.table l.b l.self.map l.twice;
  map : IsMapOf l.fn.self.geometry l.self.map;
  same_geometry : l.self.geometry ≡ l.fn.self.geometry;
  table : l.self.table ≡ l.fn.self.table;
  rests : Rests l.journal (g.D.Disk.known l.disk);
  never_falls : (g.D.Disk.known l.fn.disk).faults ≤ (g.D.Disk.known l.disk).faults;
  unchanged : Unchanged (g.D.Disk.known l.fn.disk) (g.D.Disk.known l.disk);
  goes : Goes (g.D.Disk.known l.fn.disk) (g.D.Disk.known l.disk);
  keeps : g.D.Disk.keeps l.fn.disk l.disk;
}
