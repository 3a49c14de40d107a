use Rattle.std.proofs.Common.{◌/◌, ◌∙◌, sym, arith}
use Rattle.slot_layout.proofs.NumberBytes.{are_whole_more, number-spelled}
use Rattle.slot_layout.proofs.numbers.number_at.Goals as goal

pub returns-clause-number : goal.returns-clause-number
returns-clause-number c = λ whole. c.number_in.ensures.number ∙ sym (number-spelled c.args.blocks.now c.args.i _ c.requires whole c.number_in.ensures.whole)

pub returns-clause-whole : goal.returns-clause-whole
returns-clause-whole c = λ whole. are_whole_more c.args.blocks.now (c.args.i / 256) _ (omega arith) whole c.number_in.ensures.whole
