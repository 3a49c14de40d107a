use Rattle.std.proofs.Common.{◌≡◌, ◌*◌, ◌<◌, ◌≤◌, length, arith, sym}
use Rattle.tree_shape.specs.Shape.{span}
use Rattle.tree_shape.proofs.Borders.{border_from_first, border_past}
use Rattle.tree_shape.proofs.shape.border_of.Goals as goal

pub returns-then-at-eq0 : goal.returns-then-at-eq0
returns-then-at-eq0 g c =
    let place : c.from.result * c.from-2.result ≡ c.args.k * span c.args.level = cc in
    let none : c.args.k * span c.args.level ≡ 0 = omega arith in
    sym (border_from_first (g.R.Runs.runs c.args.runs.now) c.args.level c.args.k none)

pub returns-then-at-from : goal.returns-then-at-from
returns-then-at-from g c =
    let runs = g.R.Runs.runs c.args.runs.now in
    let place : c.from.result * c.from-2.result ≡ c.args.k * span c.args.level = cc in
    let some : 0 < c.args.k * span c.args.level = omega arith in
    let past : length runs ≤ c.args.k * span c.args.level = omega (arith, c.count.ensures.count, c.from-3.ensures) in
    sym (border_past runs c.args.level c.args.k some past)
