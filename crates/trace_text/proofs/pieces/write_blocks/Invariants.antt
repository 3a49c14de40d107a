use Rattle.std.proofs.Common.{Ok, take}
use Rattle.plain_machine.specs.Lines.{block_words}
use Rattle.text_kit.specs.Writes.{Writes}
use Rattle.trace_text.proofs.pieces.write_blocks.Given as goal

-- the first blocks are written
abbrev pub invariant-loop-k : goal.invariant-loop-k
invariant-loop-k g l = Writes g.K.Sink.taken g.K.Sink.faults g.K.Sink.lent l.initial.sink l.sink (block_words (take l.k l.blocks)) (Ok tt)
