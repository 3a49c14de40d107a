use Rattle.std.proofs.Common.{ap, sym, ◌∙◌}
use Rattle.std.specs.Str.{bytes_eq}
use Rattle.text_kit.proofs.BlockLemmas.{block_text-zero, block_text-period, block_text-no_period, block_of_text-text}
use Rattle.text_kit.proofs.block_texts.text_of.Goals as goal

pub returns-then-eq-clause-text : goal.returns-then-eq-clause-text
returns-then-eq-clause-text c =
    sym (block_text-zero (record { 0 = c.args.bytes.now }) (ap (λ block. bytes_eq c.args.bytes.now block.0) (sym c.zero.ensures) ∙ sym c.eq.ensures ∙ c.if-eq.true))

pub returns-then-eq-clause-again : goal.returns-then-eq-clause-again
returns-then-eq-clause-again c =
    block_of_text-text _ c.args.bytes.now (returns-then-eq-clause-text c) c.told-bytes c.fits-bytes

pub returns-in-Some-clause-text : goal.returns-in-Some-clause-text
returns-in-Some-clause-text c =
    c.digits_of.ensures ∙ sym (block_text-period (record { 0 = c.args.bytes.now }) c.in-Some.period (ap (λ block. bytes_eq c.args.bytes.now block.0) (sym c.zero.ensures) ∙ sym c.eq.ensures ∙ c.if-eq.false) (sym c.period.ensures ∙ c.in-Some.is))

pub returns-in-Some-clause-again : goal.returns-in-Some-clause-again
returns-in-Some-clause-again c =
    block_of_text-text _ c.args.bytes.now (returns-in-Some-clause-text c) c.told-bytes c.fits-bytes

pub returns-in-None-clause-text : goal.returns-in-None-clause-text
returns-in-None-clause-text c =
    c.digits_of-in-None.ensures ∙ sym (block_text-no_period (record { 0 = c.args.bytes.now }) (ap (λ block. bytes_eq c.args.bytes.now block.0) (sym c.zero.ensures) ∙ sym c.eq.ensures ∙ c.if-eq.false) (sym c.period.ensures ∙ c.in-None.is))

pub returns-in-None-clause-again : goal.returns-in-None-clause-again
returns-in-None-clause-again c =
    block_of_text-text _ c.args.bytes.now (returns-in-None-clause-text c) c.told-bytes c.fits-bytes
