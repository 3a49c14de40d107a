use Rattle.machine_laws.proofs.OneStep.{one_step}
use Rattle.machine_laws.proofs.laws.one_step.Goals as goal

pub returns : goal.returns
returns c = one_step
