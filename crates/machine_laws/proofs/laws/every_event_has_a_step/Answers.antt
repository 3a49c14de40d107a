use Rattle.machine_laws.proofs.Existing.{has_step}
use Rattle.machine_laws.proofs.laws.every_event_has_a_step.Goals as goal

pub returns : goal.returns
returns c = has_step
