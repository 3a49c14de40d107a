use Rattle.std.proofs.Common.{◌<◌, arith, length}
use Rattle.trace_text.proofs.TraceLemmas.{block_word, Writes-broken, Writes-more}
use Rattle.trace_text.proofs.pieces.write_blocks.Goals as goal

pub returns-in_err-write_word : goal.returns-in_err-write_word
returns-in_err-write_word g c =
    let within : c.loop-k.k < length c.args.blocks.now = omega (arith, c.len-k-end.ensures.count) in
    Writes-broken block_word c.args.blocks.now c.loop-k.k c.get.result within c.get.ensures c.loop-k.invariant c.from_residual.result c.from_residual.ensures.0 c.in_err-write_word.ensures

pub loop-k-preserved : goal.loop-k-preserved
loop-k-preserved g c =
    let within : c.loop-k.k < length c.args.blocks.now = omega (arith, c.len-k-end.ensures.count) in
    Writes-more block_word c.args.blocks.now c.loop-k.k c.get.result within c.get.ensures c.loop-k.invariant c.in_ok-write_word.ensures
