use Rattle.image_layout.specs.Table.{entry_bytes}
use Rattle.slot_layout.proofs.Pieces.{IsSpelledTo}
use Rattle.image_layout.proofs.table.table_block.Given as goal

-- each entry so far is spelled at its place
abbrev pub invariant-loop-e : goal.invariant-loop-e
invariant-loop-e l = IsSpelledTo entry_bytes 32 l.table 1024 l.e l.bytes
