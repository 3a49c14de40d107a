use Rattle.std.proofs.Common.{arith, below_more}
use Rattle.extent_node.proofs.Ruled.{keeps_other}
use Rattle.extent_node.proofs.checks.check_others.Goals as goal

pub loop-i-preserved : goal.loop-i-preserved
loop-i-preserved c =
    below_more _ _ c.loop-i.invariant
    (keeps_other c.args.words.now c.args.memory_words c.args.area c.loop-i.i (omega arith) c.if-words-i-ne0.false)
