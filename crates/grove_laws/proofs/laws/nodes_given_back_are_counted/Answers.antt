use Rattle.grove_laws.proofs.Counts.{counts_nodes}
use Rattle.grove_laws.proofs.Lists.{has_list}
use Rattle.grove_laws.proofs.laws.nodes_given_back_are_counted.Goals as goal

pub returns-clause-listed : goal.returns-clause-listed
returns-clause-listed c = has_list

pub returns-clause-counted : goal.returns-clause-counted
returns-clause-counted c = counts_nodes
