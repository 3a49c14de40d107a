use Rattle.std.proofs.Common.{◌≡◌, IfSome, length}
use Rattle.image_layout.specs.Owners.{MayOwn, owner_bytes}
use Rattle.slot_layout.proofs.Pieces.{HoldsBelow, piece}
use Rattle.image_layout.proofs.owners.owners_of.Given as goal

-- each owner so far is one that its entry may have, and its spelling stands at its place
abbrev pub invariant-loop-k : goal.invariant-loop-k
invariant-loop-k l = record {
  count : length l.owners ≡ 128;
  size : length l.block.0 ≡ 1024;
  read : HoldsBelow (λ k owner. IfSome owner (MayOwn l.lengths l.entries k) × (piece 8 k l.block.0 ≡ owner_bytes owner)) l.owners l.k;
}
