use Rattle.text_kit.proofs.NumberLemmas.{HasRead}
use Rattle.text_kit.proofs.numbers.number.Given as goal

abbrev pub invariant-loop-byte : goal.invariant-loop-byte
invariant-loop-byte l = HasRead l.text l.byte-index l.value
