use Rattle.std.proofs.Common.{Some, sym, ap, ◌∙◌}
use Rattle.std.proofs.lemmas.Option.{slice_get-get_or}
use Rattle.trace_text.specs.Pieces.{piece_text}
use Rattle.trace_text.proofs.TraceLemmas.{Writes-broken, Writes-more}
use Rattle.trace_text.proofs.pieces.write_pieces.Goals as goal

pub returns-in_err-write_piece : goal.returns-in_err-write_piece
returns-in_err-write_piece g c =
    let piece = c.piece-item.result in
    let here = slice_get-get_or c.args.pieces.now c.loop-piece.piece-index piece c.loop-piece-test.true ∙ ap Some (sym c.piece-item.is) in
    Writes-broken piece_text c.args.pieces.now c.loop-piece.piece-index piece c.loop-piece-test.true here c.loop-piece.invariant c.from_residual.result c.from_residual.ensures.0 c.in_err-write_piece.ensures

pub loop-piece-preserved : goal.loop-piece-preserved
loop-piece-preserved g c =
    let piece = c.piece-item.result in
    let here = slice_get-get_or c.args.pieces.now c.loop-piece.piece-index piece c.loop-piece-test.true ∙ ap Some (sym c.piece-item.is) in
    Writes-more piece_text c.args.pieces.now c.loop-piece.piece-index piece c.loop-piece-test.true here c.loop-piece.invariant c.in_ok-write_piece.ensures
