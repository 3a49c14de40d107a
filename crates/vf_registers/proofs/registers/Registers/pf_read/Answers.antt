use Rattle.vf_registers.proofs.Pending.{agrees_as_read}
use Rattle.vf_registers.proofs.registers.Registers.pf_read.Goals as goal

pub returns-in-0-clause-agrees : goal.returns-in-0-clause-agrees
returns-in-0-clause-agrees c is = agrees_as_read _ c.args.self.now c.self.inside.pending c.from.result c.self.view_is c.from.ensures c.self.invariant.mask
