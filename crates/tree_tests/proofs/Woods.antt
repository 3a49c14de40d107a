-- The trees of all functions before a call and after it.
use Rattle.std.proofs.Common.{◌≡◌, ℕ, false, ◌+◌, ◌-◌, ◌*◌, ◌≤◌, List, length, refl, sym, ap, subst, ◌∙◌, arith}
use Rattle.std.specs.Prelude.{slice_set}
use Rattle.std.proofs.lemmas.List.{length-replicate}
use Rattle.nesc_base.specs.Memory.{KnownMemory, node_size}
use Rattle.nesc_base.specs.Runs.{AreRuns}
use Rattle.nesc_base.specs.declared.runs.Run.{Run}
use Rattle.nesc_requests.specs.Machine.{most_functions}
use Rattle.host_memory.specs.Pool.{HasRoom, Pool, all_free}
use Rattle.host_memory.specs.Words.{WordMemory, known_of, zeros}
use Rattle.tree_words.specs.Shown.{Shows, no_nodes}
use Rattle.tree_builder.specs.Building.{BuildsPath}
use Rattle.tree_builder.specs.declared.building.Built.{Built}
use Rattle.tree_pruner.specs.Reclaiming.{AreTrees, MayReclaim, ReclaimsTrees, without_trees}
use Rattle.tree_pruner.specs.Roots.{IsFunction, Roots, no_roots, root_of}
use Rattle.grove_laws.specs.Groves.{with_for}
use Rattle.grove_laws.specs.Laws.{AreAllTrees}
use Rattle.grove_laws.proofs.Kept.{kept_by_building}
use Rattle.grove_laws.proofs.NoTrees.{no_trees}
use Rattle.tree_tests.specs.Forests.{IsForest, Woods, plot_of}
use Rattle.tree_tests.specs.Planted.{IsPlanted}

pub bare_is_forest : (runs : List Run) (pool : Pool) (memory : WordMemory) (roots : Roots) (nodes words : ℕ) → AreRuns runs
    → pool ≡ all_free nodes → memory ≡ zeros words → roots ≡ no_roots → words ≡ node_size * (nodes + 1)
    → IsForest (record { runs = runs; nodes = nodes; pool = pool; memory = memory; roots = roots })
bare_is_forest runs pool memory roots nodes words are free clear none enough =
    let marks : length pool.taken ≡ nodes = ap (λ (p : Pool). length p.taken) free ∙ length-replicate nodes false in
    let long : length memory.words ≡ words = ap (λ (m : WordMemory). length m.words) clear ∙ length-replicate words 0 in
    let trees = no_trees nodes memory.words (λ _. runs) (λ _ _. are) in
    let pooled : AreTrees pool memory.words no_roots (λ _. runs) (λ _. no_nodes) =
    subst (λ (p : Pool). AreTrees p memory.words no_roots (λ _. runs) (λ _. no_nodes)) (sym free) trees in
    record {
      layouts = λ _. no_nodes;
      trees = subst (λ (r : Roots). AreTrees pool memory.words r (λ _. runs) (λ _. no_nodes)) (sym none) pooled;
      rooted = ap (λ (r : Roots). length r) none ∙ length-replicate {A = ℕ} most_functions 0;
      room = omega arith;
      many = marks;
    }

-- One function's tree

pub is_planted : (woods : Woods) (f : ℕ) → IsForest woods → IsFunction f → IsPlanted (plot_of woods f)
is_planted woods f forest function = record {
  are_runs = forest.trees.are_runs f function;
  layout = forest.layouts f;
  shows = forest.trees.shows f function;
  taken = λ level k stands. (forest.trees.taken (forest.layouts f level k)).1 (f, function, (level, k, stands, refl));
  room = forest.room;
}

pub built_is_forest : (old : Woods) (f : ℕ) (pool : Pool) (memory : WordMemory) (roots : Roots) (root v : ℕ) (built : Built) → IsForest old
    → IsFunction f → root ≡ root_of old.roots f → BuildsPath old.runs root v old.pool pool (known_of old.memory) (known_of memory) built
    → roots ≡ slice_set old.roots (f - 1) built.root
    → IsForest (record { runs = old.runs; nodes = old.nodes; pool = pool; memory = memory; roots = roots })
built_is_forest old f pool memory roots root v built forest function own builds are =
    let done = builds (forest.layouts f)
    (subst (λ (r : ℕ). Shows old.memory.words r old.runs (forest.layouts f)) (sym own) (forest.trees.shows f function)) in
    let all : AreAllTrees f old.pool old.memory.words old.roots (λ _. old.runs) forest.layouts =
    record { function = function; rooted = forest.rooted; trees = forest.trees } in
    let kept = kept_by_building f old.pool pool (known_of old.memory) (known_of memory) old.roots (λ _. old.runs) forest.layouts v built all done in
    let layouts = with_for forest.layouts f done.new in
    let marks : length pool.taken ≡ length old.pool.taken = done.pool.as_many in
    let long : length memory.words ≡ length old.memory.words = done.others.size in
    let was : node_size * (length old.pool.taken + 1) ≤ length old.memory.words = forest.room in
    record {
      layouts = layouts;
      trees = subst (λ (r : Roots). AreTrees pool memory.words r (λ _. old.runs) layouts) (sym are) kept.trees;
      rooted = ap (λ (r : Roots). length r) are ∙ kept.rooted;
      room = omega arith;
      many = marks ∙ forest.many;
    }

pub walked_is_forest : (old : Woods) (memory : WordMemory) → IsForest old → memory.words ≡ old.memory.words
    → IsForest (record { runs = old.runs; nodes = old.nodes; pool = old.pool; memory = memory; roots = old.roots })
walked_is_forest old memory forest same = record {
  layouts = forest.layouts;
  trees = subst (λ (w : List ℕ). AreTrees old.pool w old.roots (λ _. old.runs) forest.layouts) (sym same) forest.trees;
  rooted = forest.rooted;
  room = subst (λ (w : List ℕ). HasRoom (length w) old.pool) (sym same) forest.room;
  many = forest.many;
}

-- Trees are given up

pub may_reclaim : (woods : Woods) (f needed : ℕ) → IsForest woods → IsFunction f → needed ≤ woods.nodes
    → MayReclaim woods.pool (known_of woods.memory) woods.roots f needed
may_reclaim woods f needed forest function less =
    let many : length woods.pool.taken ≡ woods.nodes = forest.many in
    record {
      runs = λ _. woods.runs;
      layouts = forest.layouts;
      trees = forest.trees;
      function = function;
      within = omega arith;
    }

pub reclaimed_is_forest : (old : Woods) (f needed mask : ℕ) (pool : Pool) (memory : WordMemory) (roots : Roots) → IsForest old → IsFunction f
    → ReclaimsTrees f needed mask old.memory.words (record { pool = old.pool; roots = old.roots }) (record { pool = pool; roots = roots })
    → known_of memory ≡ known_of old.memory
    → IsForest (record { runs = old.runs; nodes = old.nodes; pool = pool; memory = memory; roots = roots })
reclaimed_is_forest old f needed mask pool memory roots forest function reclaims same =
    let runs : ℕ → List Run = λ _. old.runs in
    let done = reclaims runs forest.layouts forest.trees in
    let words : memory.words ≡ old.memory.words = ap (λ (m : KnownMemory). m.words) same in
    let marks : length pool.taken ≡ old.nodes = done.as_many ∙ forest.many in
    let many : length old.pool.taken ≡ old.nodes = forest.many in
    let long : length memory.words ≡ length old.memory.words = ap (λ (w : List ℕ). length w) words in
    let was : node_size * (length old.pool.taken + 1) ≤ length old.memory.words = forest.room in
    record {
      layouts = without_trees done.victims forest.layouts;
      trees = subst (λ (w : List ℕ). AreTrees pool w roots runs (without_trees done.victims forest.layouts)) (sym words) done.left;
      rooted = done.rooted ∙ forest.rooted;
      room = omega arith;
      many = marks;
    }
