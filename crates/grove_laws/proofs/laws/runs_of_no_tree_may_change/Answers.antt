use Rattle.grove_laws.proofs.Kept.{kept_without_tree}
use Rattle.grove_laws.proofs.laws.runs_of_no_tree_may_change.Goals as goal

pub returns : goal.returns
returns c = kept_without_tree
