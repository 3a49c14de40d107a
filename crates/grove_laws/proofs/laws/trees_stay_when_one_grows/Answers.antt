use Rattle.grove_laws.proofs.Kept.{kept_by_building}
use Rattle.grove_laws.proofs.laws.trees_stay_when_one_grows.Goals as goal

pub returns : goal.returns
returns c = kept_by_building
