use Rattle.grove_laws.proofs.Kept.{kept_by_pruning}
use Rattle.grove_laws.proofs.laws.trees_stay_when_a_leaf_goes.Goals as goal

pub returns : goal.returns
returns c = kept_by_pruning
