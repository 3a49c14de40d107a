use Rattle.grove_laws.proofs.Kept.{kept_by_dropping}
use Rattle.grove_laws.proofs.laws.trees_stay_when_one_goes.Goals as goal

pub returns : goal.returns
returns c = kept_by_dropping
