use Rattle.tree_shape.proofs.Borders.{whole_root}
use Rattle.tree_shape.proofs.laws.the_root_covers_all.Goals as goal

pub returns : goal.returns
returns c = whole_root
