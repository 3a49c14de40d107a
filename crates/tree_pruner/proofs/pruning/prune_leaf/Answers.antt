use Rattle.std.proofs.Common.{refl}
use Rattle.tree_pruner.proofs.LeavesGone.{leaf_gone, leaf_taken, none_past, none_pruned, parent_placed, root_leaf_gone}
use Rattle.tree_pruner.proofs.WaysDown.{has_whole}
use Rattle.tree_pruner.proofs.pruning.prune_leaf.Goals as goal

pub leaf_under-leaf-requires : goal.leaf_under-leaf-requires
leaf_under-leaf-requires g c = has_whole _ _ c.args.root c.args.v c.requires c.if-v-ge-LONGEST_FILE.false

pub returns-then-v-ge-LONGEST_FILE : goal.returns-then-v-ge-LONGEST_FILE
returns-then-v-ge-LONGEST_FILE g c = λ runs old are shows. record {
  uncovered = none_past c.args.v c.if-v-ge-LONGEST_FILE.true runs old are;
  same_pool = refl;
  same_memory = refl;
}

pub returns-then-leaf-eq0 : goal.returns-then-leaf-eq0
returns-then-leaf-eq0 g c = λ runs old are shows. record {
  uncovered = none_pruned _ c.args.root c.args.v c.leaf_under-leaf.result c.leaf_under-leaf.ensures c.if-leaf-eq0.true runs old are shows;
  same_pool = refl;
  same_memory = refl;
}

pub give_back-requires : goal.give_back-requires
give_back-requires g c =
    leaf_taken _ _ c.args.root c.args.v c.leaf_under-leaf.result c.requires c.leaf_under-leaf.ensures c.if-leaf-eq0.false c.if-v-ge-LONGEST_FILE.false

pub returns-then-leaf-eq0-2 : goal.returns-then-leaf-eq0-2
returns-then-leaf-eq0-2 g c =
    root_leaf_gone c.args.root c.args.v c.leaf_under-leaf.result _ _ _ c.leaf_under-leaf.ensures c.if-leaf-eq0.false c.if-v-ge-LONGEST_FILE.false c.if-leaf-eq0-2.true
    c.give_back.ensures

pub link_child-requires-clause-node : goal.link_child-requires-clause-node
link_child-requires-clause-node g c =
    (parent_placed _ _ c.args.root c.args.v c.leaf_under-leaf.result c.requires c.leaf_under-leaf.ensures c.if-leaf-eq0.false c.if-v-ge-LONGEST_FILE.false
    c.if-leaf-eq0-2.false).0

pub link_child-requires-clause-child : goal.link_child-requires-clause-child
link_child-requires-clause-child g c =
    (parent_placed _ _ c.args.root c.args.v c.leaf_under-leaf.result c.requires c.leaf_under-leaf.ensures c.if-leaf-eq0.false c.if-v-ge-LONGEST_FILE.false
    c.if-leaf-eq0-2.false).1

pub returns : goal.returns
returns g c =
    leaf_gone c.args.root c.args.v c.leaf_under-leaf.result _ _ _ _ c.leaf_under-leaf.ensures c.if-leaf-eq0.false c.if-v-ge-LONGEST_FILE.false c.if-leaf-eq0-2.false
    c.give_back.ensures c.link_child.ensures
