use Rattle.std.proofs.Common.{◌≡◌, ℕ, ◌+◌, ◌-◌, ◌<◌, length, sym, subst, arith}
use Rattle.tree_shape.specs.Shape.{width}
use Rattle.tree_words.proofs.Paths.{over_among}
use Rattle.tree_builder.proofs.Filling.{path_node}
use Rattle.tree_builder.proofs.nodes.words_of.Goals as goal

pub inner_node-requires-clause-among : goal.inner_node-requires-clause-among
inner_node-requires-clause-among g c =
    let runs = g.R.Runs.runs c.args.runs.now in
    let same : c.args.level ≡ c.args.level - 1 + 1 = omega arith in
    let there = over_among (length runs) c.args.leaf c.args.level c.requires.among in
    let here = subst (λ (k : ℕ). k < width (length runs) c.args.level) (sym c.node_over.ensures) there in
    subst (λ (l : ℕ). c.node_over.result < width (length runs) l) same here

pub returns : goal.returns
returns g c =
    let runs = g.R.Runs.runs c.args.runs.now in
    let some : 0 < c.args.level = omega arith in
    path_node runs c.args.leaf c.args.level c.args.child c.node_over.result c.slot_of.result c.inner_node.result some
    c.node_over.ensures c.slot_of.ensures c.inner_node.ensures
