use Rattle.machine_laws.proofs.SetsStay.{sets_stay}
use Rattle.machine_laws.proofs.laws.file_sets_stay_in_steps.Goals as goal

pub returns : goal.returns
returns c = sets_stay
