use Rattle.grove_laws.proofs.NoTrees.{has_no_trees}
use Rattle.grove_laws.proofs.laws.no_trees_stand_at_first.Goals as goal

pub returns : goal.returns
returns c = has_no_trees
