use Rattle.std.proofs.Common.{◌≡◌, ◌++◌, take}
use Rattle.file_layer.specs.Loading.{HasOwners, owners_before}
use Rattle.file_layer.proofs.files.Files.set_owners.Given as goal

-- the map has the owners before, and the first so many of this map block
abbrev pub invariant-loop-k : goal.invariant-loop-k
invariant-loop-k l = record {
  has : HasOwners l.fn.self.geometry l.self.map (owners_before l.b l.fn.self.map ++ take l.k l.owners);
  same_geometry : l.self.geometry ≡ l.fn.self.geometry;
  table : l.self.table ≡ l.fn.self.table;
}
