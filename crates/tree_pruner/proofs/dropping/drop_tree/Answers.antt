use Rattle.std.proofs.Common.{arith}
use Rattle.tree_pruner.proofs.WholeTrees.{tree_gone, tree_more, tree_part}
use Rattle.tree_pruner.proofs.dropping.drop_tree.Goals as goal

pub drop_part-requires : goal.drop_part-requires
drop_part-requires g c = tree_part _ _ _ c.requires

pub overflow_sub-result : goal.overflow_sub-result
overflow_sub-result g c = let more = tree_more _ _ _ _ c.requires c.drop_part.ensures in omega arith

pub returns-clause-drops : goal.returns-clause-drops
returns-clause-drops g c =
    let more = tree_more _ _ _ _ c.requires c.drop_part.ensures in
    tree_gone _ _ _ _ _ c.drop_part.ensures (omega arith)
