use Rattle.std.proofs.Common.{sym, arith}
use Rattle.text_kit.proofs.NumberLemmas.{number_of-other, number_of-stops, number_of-end, HasRead-more}
use Rattle.text_kit.proofs.numbers.number.Goals as goal

pub returns-then-is_empty : goal.returns-then-is_empty
returns-then-is_empty c = sym (number_of-other c.args.text.now (λ is. absurd (grind arith)))

pub returns-in_err-value : goal.returns-in_err-value
returns-in_err-value c =
    rw c.from_residual.ensures (sym (number_of-stops c.args.text.now c.loop-byte.byte-index c.loop-byte.value (omega arith) c.loop-byte.invariant.same c.in_err-value.ensures))

pub loop-byte-preserved : goal.loop-byte-preserved
loop-byte-preserved c =
    HasRead-more c.args.text.now c.loop-byte.byte-index c.loop-byte.value _ (omega arith) c.loop-byte.invariant c.in_ok-value.ensures

pub returns : goal.returns
returns c =
    number_of-end c.args.text.now c.loop-byte.byte-index c.loop-byte.value (omega arith) (grind arith) (omega arith) c.loop-byte.invariant
