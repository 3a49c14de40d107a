use Rattle.std.proofs.Common.{arith}
use Rattle.tree_shape.proofs.Spaced.{spaced}
use Rattle.tree_shape.proofs.Spans.{is_leaf}
use Rattle.tree_builder.proofs.Beginning.{may_begin}
use Rattle.tree_builder.proofs.tests.file_with_no_run_has_one_empty_leaf_over_all_blocks.Goals as goal

pub build_path-built-requires-clause-may : goal.build_path-built-requires-clause-may
build_path-built-requires-clause-may g c =
    may_begin c.in_ok-pool.pool c.in_ok-memory.memory (spaced 0) 1048575 0 8 288 (is_leaf 0 (omega arith)) c.in_ok-pool.ensures c.in_ok-memory.ensures (omega arith) (omega arith)
