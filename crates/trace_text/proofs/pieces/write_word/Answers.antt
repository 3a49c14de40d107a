use Rattle.std.proofs.Common.{codes}
use Rattle.nesc_base.specs.BlockText.{block_text}
use Rattle.text_kit.proofs.WritesLemmas.{Writes-then, Writes-cut}
use Rattle.trace_text.proofs.pieces.write_word.Goals as goal

pub returns-in_err-write_text : goal.returns-in_err-write_text
returns-in_err-write_text g c = Writes-cut _ _ _ _ _ (codes " ") (block_text c.args.block.now) _ _ c.from_residual.ensures.0 c.in_err-write_text.ensures

pub returns : goal.returns
returns g c = Writes-then _ _ _ _ _ _ (codes " ") (block_text c.args.block.now) _ c.in_ok-write_text.ensures c.write_block.ensures.written
