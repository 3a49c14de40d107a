use Rattle.std.proofs.Common.{◌≡◌}
use Rattle.extent_node.specs.declared.node.Kind.TheVariants.{Inner, Leaf}
use Rattle.tree_walker.proofs.Walks.{bad_judged, inner_judged, leaf_judged}
use Rattle.tree_walker.proofs.walking.judge.Goals as goal

pub returns-in-Ok-Leaf : goal.returns-in-Ok-Leaf
returns-in-Ok-Leaf c =
    let node = c.in-Ok-Leaf.ensures.node in
    let is : c.in-Ok-Leaf.field-0 ≡ Leaf = cc in
    leaf_judged c.args.memory_words c.args.area c.args.v c.args.address c.args.words.now c.in-Ok-Leaf.field-0 node.0
    c.holding.result _ is node.1 (c.holding.ensures c.in-Ok-Leaf.field-0 node.0 node.1.says) c.in_leaf.ensures

pub returns-in-Ok-Inner : goal.returns-in-Ok-Inner
returns-in-Ok-Inner c =
    let node = c.in-Ok-Inner.ensures.node in
    let is : c.in-Ok-Inner.field-0 ≡ Inner = cc in
    inner_judged c.args.memory_words c.args.area c.args.v c.args.address c.args.words.now c.in-Ok-Inner.field-0 node.0
    c.holding-in-Ok-Inner.result _ is node.1 (c.holding-in-Ok-Inner.ensures c.in-Ok-Inner.field-0 node.0 node.1.says) c.below.ensures

pub returns-in-Err : goal.returns-in-Err
returns-in-Err c =
    bad_judged c.args.memory_words c.args.area c.args.v c.args.address c.args.words.now c.in-Err.bad
    c.in-Err.ensures.bad.0 c.in-Err.ensures.bad.1
