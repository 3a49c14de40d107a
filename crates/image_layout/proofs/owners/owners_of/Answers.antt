use Rattle.std.proofs.Common.{◌≡◌, ℕ, Option, Some, IfSome, slice_get, ap, ◌∙◌, arith, length-set}
use Rattle.std.proofs.lemmas.Option.{slice_get_within}
use Rattle.image_layout.specs.Owners.{MayOwn, owner_block, owner_bytes}
use Rattle.slot_layout.proofs.Pieces.{HoldsBelow-more, piece, spelled_from_pieces}
use Rattle.image_layout.proofs.OwnersLemmas.{owner_at}
use Rattle.image_layout.proofs.owners.owners_of.Goals as goal
use Rattle.nesc_base.specs.Places.{Owner}

pub returns-in_err-owners : goal.returns-in_err-owners
returns-in_err-owners c =
    rw c.from_residual.ensures (λ owners.
    let there = owner_at c.args.lengths.now c.args.entries c.args.block.now owners.0 owners.1 c.loop-k.k (omega arith) in
    c.in_err-owners.ensures there.0 there.1 there.2)

pub loop-k-preserved : goal.loop-k-preserved
loop-k-preserved c = record {
  count = length-set c.loop-k.owners c.loop-k.k c.in_ok-owners.field-0 ∙ c.loop-k.invariant.count;
  size = c.loop-k.invariant.size;
  read = HoldsBelow-more (λ k owner. IfSome owner (MayOwn c.args.lengths.now c.args.entries k) × (piece 8 k c.args.block.now.0 ≡ owner_bytes owner))
      c.loop-k.owners c.loop-k.k c.in_ok-owners.field-0 c.loop-k.invariant.read c.in_ok-owners.ensures;
}

pub returns : goal.returns
unfolding owner_block
returns c =
    let read : (k : ℕ) (owner : Option Owner) → slice_get c.loop-k.owners k ≡ Some owner
    → IfSome owner (MayOwn c.args.lengths.now c.args.entries k) × (piece 8 k c.args.block.now.0 ≡ owner_bytes owner) =
    λ k owner is.
    let within = slice_get_within c.loop-k.owners k owner is in
    let count = c.loop-k.invariant.count in
    c.loop-k.invariant.read k owner (omega arith) is in
    record {
      count = c.loop-k.invariant.count;
      good = λ k owner is. (read k (Some owner) is).0;
      spelling = ap (λ b. record { 0 = b }) (spelled_from_pieces owner_bytes 8 c.loop-k.owners c.args.block.now.0 (omega (arith, c.loop-k.invariant.size, c.loop-k.invariant.count)) (λ k owner is. (read k owner is).1));
    }
