use Rattle.std.proofs.Common.{replicate, ap, ◌∙◌}
use Rattle.vf_registers.specs.Registers.{quiet}
use Rattle.vf_registers.proofs.Pending.{sound_at_first}
use Rattle.vf_registers.proofs.registers.Registers.new.Goals as goal

pub invariant_of-result : goal.invariant_of-result
invariant_of-result c =
    sound_at_first c.in_ok-vec.field-0.items c.args.functions
    (c.in_ok-vec.ensures.items_if_clones_equal (λ y same. same) ∙ ap (λ n. replicate n quiet) c.from.ensures) c.requires
