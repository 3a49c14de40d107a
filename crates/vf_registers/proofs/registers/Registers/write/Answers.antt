use Rattle.std.proofs.Common.{◌<◌, length, set, ap, subst, ◌∙◌, arith}
use Rattle.std.specs.Prelude.{if◌then◌else◌}
use Rattle.vf_registers.specs.Registers.{Comes, DeviceRegisters, function_write}
use Rattle.vf_registers.proofs.Banks.{write_is}
use Rattle.vf_registers.proofs.Pending.{sound_after}
use Rattle.vf_registers.proofs.registers.Registers.write.Goals as goal

pub invariant_of-self : goal.invariant_of-self
invariant_of-self c =
    let long = ap (λ (registers : DeviceRegisters). length registers.functions) c.self.view_is in
    let within : c.in-Some.index < length c.self.inside.functions.items = omega (arith, long, c.in-Some.ensures.0) in
    sound_after c.self.inside.functions.items c.in-Some.index c.write-written.new.self c.self.inside.pending c.with_bit-self-inside.result within
    c.self.invariant (c.with_bit-self-inside.ensures.there ∙ ap (λ b. if b then 1 else 0) c.is_some.ensures) c.with_bit-self-inside.ensures.others

pub returns : goal.returns
returns c =
    let long = ap (λ (registers : DeviceRegisters). length registers.functions) c.self.view_is in
    let within : c.in-Some.index < length c.self.inside.functions.items = omega (arith, long, c.in-Some.ensures.0) in
    let registers : DeviceRegisters = record { functions = c.self.inside.functions.items; flush_asked = c.self.inside.flush_asked } in
    let after : DeviceRegisters = record registers { functions = set c.self.inside.functions.items c.in-Some.index c.write-written.new.self } in
    subst (λ (before : DeviceRegisters). Comes (function_write before c.args.f.0 c.args.number c.args.value) c.write-written.result before after) c.self.view_is
    (write_is registers c.args.f.0 c.in-Some.index c.index_mut-function.result.now c.in-Some.ensures.1 within c.index_mut-function.ensures.value
    c.args.number c.args.value c.write-written.result c.write-written.new.self c.write-written.ensures)
