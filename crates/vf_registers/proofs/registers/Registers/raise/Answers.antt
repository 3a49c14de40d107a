use Rattle.std.proofs.Common.{◌<◌, length, ap, ◌∙◌, arith}
use Rattle.vf_registers.specs.Registers.{DeviceRegisters, raised}
use Rattle.vf_registers.proofs.Banks.{raised_is}
use Rattle.vf_registers.proofs.Pending.{sound_after}
use Rattle.vf_registers.proofs.registers.Registers.raise.Goals as goal

pub invariant_of-self : goal.invariant_of-self
invariant_of-self c =
    let long = ap (λ (registers : DeviceRegisters). length registers.functions) c.self.view_is in
    let within : c.in-Some.index < length c.self.inside.functions.items = omega (arith, long, c.in-Some.ensures.0) in
    sound_after c.self.inside.functions.items c.in-Some.index _ c.self.inside.pending c.with_bit-self-inside.result within c.self.invariant
    c.with_bit-self-inside.ensures.there c.with_bit-self-inside.ensures.others

pub returns-in-Some : goal.returns-in-Some
returns-in-Some c =
    let long = ap (λ (registers : DeviceRegisters). length registers.functions) c.self.view_is in
    let within : c.in-Some.index < length c.self.inside.functions.items = omega (arith, long, c.in-Some.ensures.0) in
    let registers : DeviceRegisters = record { functions = c.self.inside.functions.items; flush_asked = c.self.inside.flush_asked } in
    raised_is registers c.args.f.0 c.in-Some.index c.index_mut.result.now c.in-Some.ensures.1 within c.index_mut.ensures.value c.args.miss
    ∙ ap (λ (registers : DeviceRegisters). raised registers c.args.f.0 c.args.miss) c.self.view_is
