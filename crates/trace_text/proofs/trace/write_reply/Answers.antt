use Rattle.std.specs.Fmt.{decimal}
use Rattle.plain_machine.specs.Lines.{block_words}
use Rattle.text_kit.proofs.WritesLemmas.{Writes-same}
use Rattle.trace_text.specs.Ends.{blocks_told, end_number, end_word}
use Rattle.trace_text.proofs.TraceLemmas.{end_text-told, reply-pieces}
use Rattle.trace_text.proofs.trace.write_reply.Goals as goal

-- the pieces are the line, at what each call gave
pub returns : goal.returns
returns g c =
    let reply = c.args.reply.now in
    let line = reply-pieces (decimal reply.f.0) (decimal reply.id) (end_word reply.end) (decimal (end_number reply.end reply.done)) (block_words (blocks_told reply.end reply.request)) _ (end_text-told reply.end reply.done reply.request) in
    Writes-same _ _ _ _ _ _ _ _ (simp (c.from.ensures, c.end_word.ensures, c.end_number.ensures, c.blocks_told.ensures) line) c.write_pieces.ensures
