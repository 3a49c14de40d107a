use Rattle.machine_laws.proofs.Sounding.{functions_stay}
use Rattle.machine_laws.proofs.laws.functions_stay_sound.Goals as goal

pub returns : goal.returns
returns c = functions_stay
