use Rattle.tree_shape.proofs.Leaves.{leads_to_runs, misses_no_run, stands_in_leaf}
use Rattle.tree_shape.proofs.laws.leaves_have_all_runs.Goals as goal

pub returns-clause-stands : goal.returns-clause-stands
returns-clause-stands c = stands_in_leaf

pub returns-clause-leads : goal.returns-clause-leads
returns-clause-leads c = leads_to_runs

pub returns-clause-misses : goal.returns-clause-misses
returns-clause-misses c = misses_no_run
