use Rattle.std.proofs.Common.{length}
use Rattle.host_journal.proofs.Stored.{AreLeft}
use Rattle.host_journal.proofs.staged.StagedBlocks.clear.Given as goal

-- the fields are `from`, at 1.0, and `index`, at 1.1.0
abbrev pub invariant-loop-at : goal.invariant-loop-at
invariant-loop-at l = AreLeft l.initial.self-inside.1.0 l.self-inside.1.1.0.items l.at-items l.at-index (length l.initial.self-inside.1.1.0.items)
