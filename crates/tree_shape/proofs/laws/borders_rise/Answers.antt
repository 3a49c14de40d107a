use Rattle.tree_shape.proofs.Borders.{rising_borders}
use Rattle.tree_shape.proofs.laws.borders_rise.Goals as goal

pub returns : goal.returns
returns c = rising_borders
