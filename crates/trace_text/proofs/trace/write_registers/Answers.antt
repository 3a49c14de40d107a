use Rattle.std.specs.Fmt.{decimal}
use Rattle.text_kit.proofs.WritesLemmas.{Writes-same}
use Rattle.trace_text.proofs.TraceLemmas.{registers-pieces}
use Rattle.trace_text.proofs.trace.write_registers.Goals as goal

-- the pieces are the line, at what each call gave
pub returns : goal.returns
returns g c =
    let args = c.args in
    let line = registers-pieces (decimal args.size) (decimal args.block) (decimal args.count) (decimal args.kind) (decimal args.pending) in
    Writes-same _ _ _ _ _ _ _ _ (simp (c.from.ensures, c.from-2.ensures, c.from-3.ensures, c.from-4.ensures, c.from-5.ensures) line) c.write_pieces.ensures
