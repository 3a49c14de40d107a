use Rattle.std.proofs.Common.{Ok, take}
use Rattle.trace_text.specs.Pieces.{pieces_text}
use Rattle.text_kit.specs.Writes.{Writes}
use Rattle.trace_text.proofs.pieces.write_pieces.Given as goal

-- the first pieces are written
abbrev pub invariant-loop-piece : goal.invariant-loop-piece
invariant-loop-piece g l = Writes g.K.Sink.taken g.K.Sink.faults g.K.Sink.lent l.initial.sink l.sink (pieces_text (take l.piece-index l.pieces)) (Ok tt)
