-- The first path of a tree, and the next one: for tests.
use Rattle.std.proofs.Common.{◌*◌, ◌≡◌, inl, inr, ℕ, ◌+◌, ◌≤◌, List, length, false, refl, ap, ◌∙◌, arith}
use Rattle.std.proofs.lemmas.List.{length-replicate}
use Rattle.nesc_base.specs.Memory.{KnownMemory}
use Rattle.nesc_base.specs.declared.runs.Run.{Run}
use Rattle.nesc_base.specs.Runs.{AreRuns}
use Rattle.host_memory.specs.Pool.{Pool, all_free, free_of}
use Rattle.host_memory.specs.Words.{WordMemory, known_of, zeros}
use Rattle.host_memory.proofs.PoolLaws.{free_of_all}
use Rattle.tree_shape.specs.Shape.{Covers, IsTop, border}
use Rattle.tree_shape.proofs.Borders.{cover_one}
use Rattle.tree_shape.proofs.Paths.{over_leaf}
use Rattle.tree_shape.proofs.Spans.{same_top}
use Rattle.tree_words.specs.Shown.{Layout, no_nodes}
use Rattle.tree_words.proofs.NoNodes.{shows_none}
use Rattle.tree_builder.specs.Building.{Builds, MayBuild, Needs}
use Rattle.tree_builder.specs.declared.building.Built.{Built}

needs_few : (runs : List Run) (layout : Layout) (v top needed : ℕ) → IsTop (length runs) top → Needs runs layout v needed → needed ≤ top + 1
needs_few runs layout v top needed at needs =
    let most = needs.lacks.most in
    omega (arith, most, same_top (length runs) needs.top top needs.root_level at)

-- in a memory and a pool of which nothing is used
pub may_begin : (pool : Pool) (memory : WordMemory) (runs : List Run) (v top nodes words : ℕ) → IsTop (length runs) top → pool ≡ all_free nodes
    → memory ≡ zeros words → top + 1 ≤ nodes → 32 * (nodes + 1) ≤ words → MayBuild pool (known_of memory) 0 runs v
may_begin pool memory runs v top nodes words at free blank enough room =
    let size : length memory.words ≡ words = ap (λ (m : WordMemory). length m.words) blank ∙ length-replicate words 0 in
    let taken : length pool.taken ≡ nodes = ap (λ (p : Pool). length p.taken) free ∙ length-replicate nodes false in
    let count : free_of pool ≡ nodes = ap free_of free ∙ free_of_all nodes in
    record {
      layout = no_nodes;
      shows = shows_none memory.words 0 runs no_nodes refl (λ level k. refl);
      taken = λ level k stands. absurd (stands refl);
      uncovered = λ covered. covered.2 refl;
      enough = λ needed needs. omega (arith, count, needs_few runs no_nodes v top needed at needs);
      room = omega (arith, size, taken);
    }

-- at a block behind the leaf that was built
pub may_go_on : (runs : List Run) (v w top leaf : ℕ) (old_pool new_pool : Pool) (old new : KnownMemory) (built : Built) → AreRuns runs → IsTop (length runs) top
    → MayBuild old_pool old 0 runs v → Builds runs v no_nodes old_pool new_pool old new built → Covers runs 0 leaf v → border runs 0 (leaf + 1) ≤ w
    → top + 1 + (top + 1) ≤ free_of old_pool → MayBuild new_pool new built.root runs w
may_go_on runs v w top leaf old_pool new_pool old new built are at may builds covers behind enough =
    let few = needs_few runs no_nodes v top built.nodes at builds.needs in
    record {
      layout = builds.new;
      shows = builds.shows;
      taken = λ level k stands. (builds.pool.each (builds.new level k)).1 (inr (level, k, stands, refl));
      uncovered = λ covered. elim (builds.adds.no_other 0 covered.0 covered.2) [
        | inl stood ↦ stood refl
        | inr leads ↦
            let same : covered.0 ≡ leaf = leads.1 ∙ over_leaf builds.needs.leaf
            ∙ cover_one runs are 0 builds.needs.leaf leaf v builds.needs.over.covers covers in
            let below = covered.1.covers.below in
            omega (arith, below, ap (λ (k : ℕ). border runs 0 (k + 1)) same)
      ];
      enough = λ needed needs. omega (arith, few, builds.pool.count_is, needs_few runs builds.new w top needed at needs);
      room = omega (arith, may.room, builds.others.size, builds.pool.as_many);
    }
