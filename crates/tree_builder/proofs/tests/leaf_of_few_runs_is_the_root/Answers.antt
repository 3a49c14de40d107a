use Rattle.std.proofs.Common.{arith}
use Rattle.tree_shape.proofs.Spaced.{spaced}
use Rattle.tree_shape.proofs.Spans.{is_leaf}
use Rattle.tree_builder.proofs.Beginning.{may_begin}
use Rattle.tree_builder.proofs.tests.leaf_of_few_runs_is_the_root.Goals as goal

pub build_path-built-requires-clause-may : goal.build_path-built-requires-clause-may
build_path-built-requires-clause-may g c =
    may_begin c.in_ok-pool.pool c.in_ok-memory.memory (spaced 2) 7 0 8 288 (is_leaf 2 (omega arith)) c.in_ok-pool.ensures c.in_ok-memory.ensures (omega arith) (omega arith)
