use Rattle.std.proofs.Common.{sym, ap, ◌∙◌, w16}
use Rattle.std.specs.Prelude.{if◌then◌else◌}
use Rattle.std.proofs.lemmas.Nat.Bits.{bit_at_clear_same, bit_at_set_other, bit_at_set_same}
use Rattle.vf_registers.proofs.Bits.{cleared_others}
use Rattle.vf_registers.proofs.registers.with_bit.Goals as goal

pub returns-then-on-clause-there : goal.returns-then-on-clause-there
returns-then-on-clause-there c =
    bit_at_set_same w16 c.args.bits c.args.place c.requires ∙ ap (λ b. if b then 1 else 0) (sym c.if-on.true)

pub returns-then-on-clause-others : goal.returns-then-on-clause-others
returns-then-on-clause-others c k apart = bit_at_set_other w16 c.args.bits c.args.place c.requires k apart

pub returns-else-on-clause-there : goal.returns-else-on-clause-there
returns-else-on-clause-there c =
    bit_at_clear_same w16 c.args.bits c.args.place c.requires ∙ ap (λ b. if b then 1 else 0) (sym c.if-on.false)

pub returns-else-on-clause-others : goal.returns-else-on-clause-others
returns-else-on-clause-others c k apart = cleared_others c.args.bits c.args.place k c.requires c.ranges.bits.fits apart
