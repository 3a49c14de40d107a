use Rattle.tree_shape.proofs.Spaced.{spaced_are, spaced_length}
use Rattle.tree_builder.proofs.tests.SpacedRuns.count.Goals as goal

pub returns-clause-count : goal.returns-clause-count
returns-clause-count c = spaced_length c.args.self.now.count

pub returns-clause-are : goal.returns-clause-are
returns-clause-are c = spaced_are c.args.self.now.count c.args.self.now.few
