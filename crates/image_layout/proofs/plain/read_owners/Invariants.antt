use Rattle.std.proofs.Common.{◌≡◌, ℕ, ◌*◌, ◌<◌, drop, length, take}
use Rattle.image_layout.specs.Opens.{IsMapBlock}
use Rattle.image_layout.proofs.plain.read_owners.Given as goal

-- the map blocks so far have the owners so far
abbrev pub invariant-loop-b : goal.invariant-loop-b
invariant-loop-b l = record {
  count : length l.owners.items ≡ 128 * l.b;
  each : (c : ℕ) → c < l.b → IsMapBlock l.geometry l.laid l.table c (take 128 (drop (128 * c) l.owners.items));
}
