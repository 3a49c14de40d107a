use Rattle.std.proofs.Common.{◌≡◌, ◌∷◌, length, take, drop}
use Rattle.slot_layout.specs.Bytes.{block_of_bytes, four_bytes, padded, spelled}
use Rattle.slot_layout.proofs.targets.list_block.Given as goal

-- the block has the first i of its numbers
abbrev pub invariant-loop-i : goal.invariant-loop-i
invariant-loop-i l = l.block ≡ block_of_bytes (padded 1024 (spelled four_bytes (take l.i (drop l.from (length l.targets ∷ l.targets)))))
