use Rattle.machine_laws.proofs.Going.{never_stuck}
use Rattle.machine_laws.proofs.laws.every_run_goes_on.Goals as goal

pub returns : goal.returns
returns c = never_stuck
