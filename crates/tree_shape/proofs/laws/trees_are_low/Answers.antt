use Rattle.tree_shape.proofs.Spans.{low_top, no_higher}
use Rattle.tree_shape.proofs.laws.trees_are_low.Goals as goal

pub returns-clause-each : goal.returns-clause-each
returns-clause-each c = no_higher

pub returns-clause-any : goal.returns-clause-any
returns-clause-any c = low_top
