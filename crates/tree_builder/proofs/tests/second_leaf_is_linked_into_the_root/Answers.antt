use Rattle.std.proofs.Common.{◌≡◌, ap, ◌∙◌, arith, refl}
use Rattle.host_memory.specs.Pool.{free_of}
use Rattle.host_memory.specs.Words.{known_of}
use Rattle.host_memory.proofs.PoolLaws.{free_of_all}
use Rattle.tree_shape.proofs.Spaced.{spaced, spaced_are}
use Rattle.tree_shape.proofs.Spans.{is_top}
use Rattle.tree_words.specs.Shown.{no_nodes}
use Rattle.tree_words.proofs.NoNodes.{shows_none}
use Rattle.tree_builder.proofs.Beginning.{may_begin, may_go_on}
use Rattle.tree_builder.proofs.tests.second_leaf_is_linked_into_the_root.Goals as goal

pub build_path-first-requires-clause-may : goal.build_path-first-requires-clause-may
build_path-first-requires-clause-may g c =
    may_begin c.in_ok-pool.pool c.in_ok-memory.memory (spaced 11) 0 1 8 288 (is_top 11 0 (omega arith) (omega arith)) c.in_ok-pool.ensures c.in_ok-memory.ensures (omega arith) (omega arith)

pub build_path-second-requires-clause-may : goal.build_path-second-requires-clause-may
build_path-second-requires-clause-may g c =
    let top = is_top 11 0 (omega arith) (omega arith) in
    let may = may_begin c.in_ok-pool.pool c.in_ok-memory.memory (spaced 11) 0 1 8 288 top c.in_ok-pool.ensures c.in_ok-memory.ensures (omega arith) (omega arith) in
    let builds = c.build_path-first.ensures no_nodes (shows_none c.in_ok-memory.memory.words 0 (spaced 11) no_nodes refl (λ level k. refl)) in
    let count : free_of c.in_ok-pool.pool ≡ 8 = ap free_of c.in_ok-pool.ensures ∙ free_of_all 8 in
    may_go_on (spaced 11) 0 20 1 0 c.in_ok-pool.pool c.build_path-first.new.pool (known_of c.in_ok-memory.memory) (known_of c.build_path-first.new.memory)
    c.build_path-first.result (spaced_are 11 (omega arith)) top may builds (record { from = omega arith; below = omega arith }) (omega arith) (omega (arith, count))
