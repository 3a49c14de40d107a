use Rattle.std.proofs.Common.{arith}
use Rattle.tree_shape.proofs.Spans.{is_leaf, is_top}
use Rattle.tree_shape.proofs.laws.tops_of_some_trees.Goals as goal

pub returns-clause-none : goal.returns-clause-none
returns-clause-none c = is_leaf 0 (omega arith)

pub returns-clause-leaf : goal.returns-clause-leaf
returns-clause-leaf c = is_leaf 10 (omega arith)

pub returns-clause-two : goal.returns-clause-two
returns-clause-two c = is_top 11 0 (omega arith) (omega arith)

pub returns-clause-middle : goal.returns-clause-middle
returns-clause-middle c = is_top 65536 3 (omega arith) (omega arith)

pub returns-clause-whole : goal.returns-clause-whole
returns-clause-whole c = is_top 100000 3 (omega arith) (omega arith)

pub returns-clause-more : goal.returns-clause-more
returns-clause-more c = is_top 100001 4 (omega arith) (omega arith)
