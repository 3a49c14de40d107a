use Rattle.std.proofs.Common.{arith}
use Rattle.text_kit.proofs.NumberLemmas.{number_of-decimal}
use Rattle.text_kit.proofs.numbers.write_number.Goals as goal

pub returns-clause-again : goal.returns-clause-again
returns-clause-again g c = number_of-decimal c.args.n (omega arith)
