use Rattle.tree_shape.proofs.Spans.{one_top}
use Rattle.tree_shape.proofs.laws.there_is_one_top.Goals as goal

pub returns : goal.returns
returns c = one_top
