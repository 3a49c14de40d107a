use Rattle.std.proofs.Common.{vec_len, arith}
use Rattle.vf_registers.proofs.Pending.{sound_at_first}
use Rattle.vf_registers.proofs.registers.Registers.reset.Goals as goal

pub invariant_of-self : goal.invariant_of-self
invariant_of-self c =
    let functions = c.self.inside.functions in
    sound_at_first c.fill.new.self.items (vec_len functions) (c.fill.ensures.items (λ y same. same)) (omega (arith, functions.ok.0, c.self.invariant.few))
