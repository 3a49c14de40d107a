use Rattle.image_layout.specs.Owners.{owner_bytes}
use Rattle.slot_layout.proofs.Pieces.{IsSpelledTo}
use Rattle.image_layout.proofs.owners.owner_block.Given as goal

-- each owner so far is spelled at its place
abbrev pub invariant-loop-k : goal.invariant-loop-k
invariant-loop-k l = IsSpelledTo owner_bytes 8 l.owners 1024 l.k l.bytes
