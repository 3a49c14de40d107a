use Rattle.std.proofs.Common.{◌<◌, arith}
use Rattle.std.proofs.Math.Nat.{one-le-pow}
use Rattle.tree_shape.proofs.shape.node_over.Goals as goal

pub nonzero_div-result : goal.nonzero_div-result
nonzero_div-result c = let some : 0 < 10 = omega arith in omega (arith, one-le-pow c.args.level 10 some)
