use Rattle.tree_shape.proofs.Spans.{span_above}
use Rattle.tree_shape.proofs.laws.levels_are_tenfold.Goals as goal

pub returns : goal.returns
returns c = span_above
