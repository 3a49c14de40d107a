use Rattle.std.proofs.Common.{arith, refl}
use Rattle.tree_shape.proofs.Spaced.{spaced}
use Rattle.tree_shape.proofs.Spans.{is_top}
use Rattle.tree_words.specs.Shown.{no_nodes}
use Rattle.tree_words.proofs.NoNodes.{shows_none}
use Rattle.tree_builder.proofs.Beginning.{may_begin}
use Rattle.tree_builder.proofs.tests.path_to_the_first_block_is_a_leaf_under_a_root.Goals as goal

pub build_path-built-requires-clause-may : goal.build_path-built-requires-clause-may
build_path-built-requires-clause-may g c =
    may_begin c.in_ok-pool.pool c.in_ok-memory.memory (spaced 11) 0 1 8 288 (is_top 11 0 (omega arith) (omega arith)) c.in_ok-pool.ensures c.in_ok-memory.ensures (omega arith) (omega arith)

pub nodes_needed-requires-clause-shows : goal.nodes_needed-requires-clause-shows
nodes_needed-requires-clause-shows g c =
    (no_nodes, shows_none c.in_ok-memory.memory.words 0 (spaced 11) no_nodes refl (λ level k. refl))
