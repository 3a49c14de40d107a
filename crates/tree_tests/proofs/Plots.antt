-- What stands in a planting before a call and after it.
use Rattle.std.proofs.Common.{◌≡◌, ◌≢◌, ◌⊎◌, inl, inr, ℕ, ◌+◌, ◌*◌, ◌<◌, ◌≤◌, List, None, Some, false, length, refl, sym, ap, subst, ◌∙◌, arith}
use Rattle.std.proofs.lemmas.Bool.{cases_eq}
use Rattle.std.proofs.lemmas.List.{length-replicate}
use Rattle.nesc_base.specs.Files.{longest_file}
use Rattle.nesc_base.specs.Memory.{KnownMemory, node_size}
use Rattle.nesc_base.specs.Runs.{AreRuns}
use Rattle.nesc_base.specs.declared.runs.Run.{Run}
use Rattle.host_memory.specs.Pool.{GivesBack, IsTaken, Pool, all_free, free_of}
use Rattle.host_memory.specs.Words.{WordMemory, known_of, zeros}
use Rattle.host_memory.proofs.PoolLaws.{gives_back}
use Rattle.tree_words.specs.Changed.{TakesAway}
use Rattle.tree_words.specs.Pools.{AreTaken}
use Rattle.tree_words.specs.Shown.{Layout, ShowsAt, Stands, no_nodes}
use Rattle.tree_words.proofs.NoNodes.{shows_none}
use Rattle.tree_builder.proofs.Needing.{covered_needs_none, needs_one}
use Rattle.tree_builder.specs.Building.{BuildsPath, MayBuild}
use Rattle.tree_builder.specs.declared.building.Built.{Built}
use Rattle.tree_pruner.specs.Dropping.{DropsTree}
use Rattle.tree_pruner.specs.Pruning.{PrunesLeaf}
use Rattle.tree_pruner.specs.declared.pruning.Pruned.{Pruned}
use Rattle.tree_tests.specs.Planted.{IsPlanted, NeedsHere, Plot}

pub bare_is_planted : (runs : List Run) (pool : Pool) (memory : WordMemory) (nodes words : ℕ) → AreRuns runs
    → pool ≡ all_free nodes → memory ≡ zeros words → words ≡ node_size * (nodes + 1)
    → IsPlanted (record { runs = runs; pool = pool; memory = memory; root = 0 })
bare_is_planted runs pool memory nodes words are free clear enough =
    let marks : length pool.taken ≡ nodes = ap (λ (p : Pool). length p.taken) free ∙ length-replicate nodes false in
    let long : length memory.words ≡ words = ap (λ (m : WordMemory). length m.words) clear ∙ length-replicate words 0 in
    record {
      are_runs = are;
      layout = no_nodes;
      shows = shows_none memory.words 0 runs no_nodes refl (λ level k. refl);
      taken = λ level k stands. absurd (stands refl);
      room = omega arith;
    }

-- What is needed

pub may_build : (plot : Plot) (v needed : ℕ) → IsPlanted plot → v < longest_file → NeedsHere plot v needed → needed ≢ 0
    → needed ≤ free_of plot.pool → MayBuild plot.pool (known_of plot.memory) plot.root plot.runs v
may_build plot v needed planted filed needs some enough = record {
  layout = planted.layout;
  shows = planted.shows;
  taken = planted.taken;
  uncovered = λ covered.
      some (covered_needs_none plot.runs planted.layout v needed planted.are_runs filed covered (needs planted.layout planted.shows));
  enough = λ other also.
      let same : needed ≡ other =
      needs_one plot.memory.words plot.root plot.runs planted.layout v needed other planted.are_runs filed planted.shows
      (needs planted.layout planted.shows) also in
      omega arith;
  room = planted.room;
}

-- What stands afterwards

pub built_is_planted : (old : Plot) (pool : Pool) (memory : WordMemory) (v : ℕ) (built : Built) → IsPlanted old
    → BuildsPath old.runs old.root v old.pool pool (known_of old.memory) (known_of memory) built
    → IsPlanted (record { runs = old.runs; pool = pool; memory = memory; root = built.root })
built_is_planted old pool memory v built planted builds =
    let done = builds planted.layout planted.shows in
    let marks : length pool.taken ≡ length old.pool.taken = done.pool.as_many in
    let long : length memory.words ≡ length old.memory.words = done.others.size in
    let was : node_size * (length old.pool.taken + 1) ≤ length old.memory.words = planted.room in
    record {
      are_runs = planted.are_runs;
      layout = done.new;
      shows = done.shows;
      taken = λ level k stands. (done.pool.each (done.new level k)).1 (inr (level, k, stands, refl));
      room = omega arith;
    }

-- a node that still stands is not the leaf that was taken away, and stands where it did
still : (leaf : ℕ) (old new : Layout) (level k : ℕ) → TakesAway leaf old new → Stands new level k
    → ((level ≢ 0) ⊎ (k ≢ leaf)) × (new level k ≡ old level k)
still leaf old new level k takes stands = elim (cases_eq level 0) [
  | inl low ↦ elim (cases_eq k leaf) [
    | inl same ↦ absurd (stands (ap (λ (l : ℕ). new l k) low ∙ ap (new 0) same ∙ takes.gone))
    | inr other ↦ (inr other, takes.others level k (inr other))
  ]
  | inr high ↦ (inl high, takes.others level k (inl high))
]

others_stay_taken : (words : List ℕ) (runs : List Run) (top leaf : ℕ) (old new : Layout) (pool after : Pool) → ShowsAt words runs top old
    → AreTaken pool old → TakesAway leaf old new → GivesBack pool (old 0 leaf) after → AreTaken after new
others_stay_taken words runs top leaf old new pool after shows taken takes gives level k stands =
    let is = still leaf old new level k takes stands in
    let stood : Stands old level k = λ none. stands (is.1 ∙ none) in
    let apart : old level k ≢ old 0 leaf = λ same.
    let both = shows.apart level k 0 leaf stood same in
    elim is.0 [ inl high ↦ high both.0 | inr other ↦ other both.1 ] in
    subst (λ (a : ℕ). IsTaken after a) (sym is.1) (((gives_back pool after (old 0 leaf) gives).others.taken (old level k) apart).0 (taken level k stood))

pub pruned_is_planted : (old : Plot) (pool : Pool) (memory : WordMemory) (v : ℕ) (pruned : Pruned) → IsPlanted old
    → PrunesLeaf old.root v old.pool pool (known_of old.memory) (known_of memory) (Some pruned)
    → IsPlanted (record { runs = old.runs; pool = pool; memory = memory; root = pruned.root })
pruned_is_planted old pool memory v pruned planted prunes =
    let done = prunes old.runs planted.layout planted.are_runs planted.shows in
    let marks : length pool.taken ≡ length old.pool.taken = (gives_back old.pool pool (planted.layout 0 done.leaf) done.gives).as_many in
    let long : length memory.words ≡ length old.memory.words = done.others.size in
    let was : node_size * (length old.pool.taken + 1) ≤ length old.memory.words = planted.room in
    record {
      are_runs = planted.are_runs;
      layout = done.new;
      shows = done.shows;
      taken = others_stay_taken old.memory.words old.runs planted.shows.top done.leaf planted.layout done.new old.pool pool
          planted.shows.shows planted.taken done.takes done.gives;
      room = omega arith;
    }

-- two memories of which the same is known are the same
pub same_known : (one other : WordMemory) → known_of one ≡ known_of other → one ≡ other
same_known one other same = ap (λ (known : KnownMemory). let m : WordMemory = record { words = known.words; fetched = known.fetched } in m) same

pub unpruned : (old : Plot) (pool : Pool) (memory : WordMemory) (v : ℕ) → IsPlanted old
    → PrunesLeaf old.root v old.pool pool (known_of old.memory) (known_of memory) None
    → record { runs = old.runs; pool = pool; memory = memory; root = old.root } ≡ old
unpruned old pool memory v planted prunes =
    let done = prunes old.runs planted.layout planted.are_runs planted.shows in
    ap (λ (p : Pool). let plot : Plot = record { runs = old.runs; pool = p; memory = memory; root = old.root } in plot) done.same_pool
    ∙ ap (λ (m : WordMemory). let plot : Plot = record { runs = old.runs; pool = old.pool; memory = m; root = old.root } in plot) (same_known memory old.memory done.same_memory)

-- a call that changes nothing says the same of the pool and the memory as they are
pub prunes_none : (old : Plot) (pool : Pool) (memory : WordMemory) (v : ℕ) → IsPlanted old
    → PrunesLeaf old.root v old.pool pool (known_of old.memory) (known_of memory) None
    → PrunesLeaf old.root v old.pool old.pool (known_of old.memory) (known_of old.memory) None
prunes_none old pool memory v planted prunes runs layout are shows =
    let done = prunes runs layout are shows in
    record { uncovered = done.uncovered; same_pool = refl; same_memory = refl }

pub dropped_is_planted : (old : Plot) (pool : Pool) (memory : WordMemory) (count : ℕ) → IsPlanted old
    → DropsTree old.memory.words old.root count old.pool pool → memory ≡ old.memory
    → IsPlanted (record { runs = old.runs; pool = pool; memory = memory; root = 0 })
dropped_is_planted old pool memory count planted drops same =
    let done = drops old.runs planted.layout planted.are_runs planted.shows in
    let marks : length pool.taken ≡ length old.pool.taken = done.as_many in
    let long : length memory.words ≡ length old.memory.words = ap (λ (m : WordMemory). length m.words) same in
    let was : node_size * (length old.pool.taken + 1) ≤ length old.memory.words = planted.room in
    record {
      are_runs = planted.are_runs;
      layout = no_nodes;
      shows = shows_none memory.words 0 old.runs no_nodes refl (λ level k. refl);
      taken = λ level k stands. absurd (stands refl);
      room = omega arith;
    }
