use Rattle.std.proofs.Common.{◌≡◌, ◌≤◌, length, arith}
use Rattle.tree_shape.specs.Shape.{width}
use Rattle.tree_shape.proofs.Beginnings.{few_runs}
use Rattle.tree_shape.proofs.Borders.{border_end}
use Rattle.tree_shape.proofs.Spans.{width_some}
use Rattle.tree_shape.proofs.shape.leaf_over.Goals as goal

pub width_of-high-requires-clause-few : goal.width_of-high-requires-clause-few
width_of-high-requires-clause-few g c = omega (arith, few_runs (g.R.Runs.runs c.args.runs.now) c.count.ensures.are)

pub loop-high-init : goal.loop-high-init
loop-high-init g c =
    let runs = g.R.Runs.runs c.args.runs.now in
    let wide : c.width_of-high.result ≡ width (length runs) 0 = omega arith in
    let past : width (length runs) 0 ≤ c.width_of-high.result = omega arith in
    record {
      some = omega (arith, width_some (length runs) 0);
      within = omega arith;
      from = omega arith;
      below = omega (arith, border_end runs 0 c.width_of-high.result past);
    }
