use Rattle.tree_shape.proofs.Spaced.{spaced_none, spaced_some}
use Rattle.tree_builder.proofs.tests.SpacedRuns.run.Goals as goal

pub returns-then-k-self : goal.returns-then-k-self
returns-then-k-self c = spaced_none c.args.self.now.count c.args.k c.if-k-self.true

pub returns : goal.returns
returns c = spaced_some c.args.self.now.count c.args.k c.if-k-self.false
