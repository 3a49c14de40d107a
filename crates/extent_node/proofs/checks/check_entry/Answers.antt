use Rattle.std.proofs.Common.{arith, refl}
use Rattle.extent_node.specs.Words.{count_word}
use Rattle.extent_node.proofs.Ruled.{bad_count, bad_place, below_next, never_so}
use Rattle.extent_node.proofs.checks.check_entry.Goals as goal

pub keeps_first_rule-requires-clause-earlier : goal.keeps_first_rule-requires-clause-earlier
keeps_first_rule-requires-clause-earlier c before is =
    (c.requires.below (count_word before) (omega arith)).count before (omega arith) refl

pub returns-then-not-keeps_count_rule : goal.returns-then-not-keeps_count_rule
returns-then-not-keeps_count_rule c =
    rw c.count_of.ensures
    (bad_count c.args.words.now c.args.memory_words c.args.area c.args.k c.requires.one (omega arith) c.requires.below
    (c.if-not-keeps_first_rule.ensures.0 refl)
    (λ rule. never_so (c.if-not-keeps_count_rule.ensures.1 rule)))

pub returns-then-not-keeps_place_rule : goal.returns-then-not-keeps_place_rule
returns-then-not-keeps_place_rule c =
    rw c.place_of.ensures
    (bad_place c.args.words.now c.args.memory_words c.args.area c.args.k c.requires.one (omega arith) c.requires.below
    (c.if-not-keeps_first_rule.ensures.0 refl)
    (c.if-not-keeps_count_rule.ensures.0 refl)
    (λ rule. never_so (c.if-not-keeps_place_rule.ensures.1 rule)))

pub returns : goal.returns
returns c =
    below_next c.args.words.now c.args.memory_words c.args.area c.args.k c.requires.one c.requires.below
    (c.if-not-keeps_first_rule.ensures.0 refl)
    (c.if-not-keeps_count_rule.ensures.0 refl)
    (c.if-not-keeps_place_rule.ensures.0 refl)
