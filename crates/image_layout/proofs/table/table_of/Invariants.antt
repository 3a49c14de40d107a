use Rattle.std.proofs.Common.{◌≡◌, length}
use Rattle.image_layout.specs.Table.{Fits, entry_bytes}
use Rattle.slot_layout.proofs.Pieces.{HoldsBelow, piece}
use Rattle.image_layout.proofs.table.table_of.Given as goal

-- each entry so far is one that there may be, and its spelling stands at its place
abbrev pub invariant-loop-e : goal.invariant-loop-e
invariant-loop-e l = record {
  count : length l.entries ≡ 32;
  size : length l.block.0 ≡ 1024;
  read : HoldsBelow (λ k entry. Fits entry × (piece 32 k l.block.0 ≡ entry_bytes entry)) l.entries l.e;
}
