-- The trees of all functions after a path was built, a leaf or a tree was given back, or a file's runs changed.
use Rattle.std.proofs.Common.{◌≡◌, ◌≢◌, ◌⊎◌, inl, inr, ℕ, ◌-◌, List, length, sym, ap, subst, ◌∙◌, arith}
use Rattle.std.proofs.lemmas.Bool.{cases_eq}
use Rattle.std.proofs.lemmas.List.{length-set}
use Rattle.nesc_base.specs.Runs.{AreRuns}
use Rattle.nesc_base.specs.declared.runs.Run.{Run}
use Rattle.host_memory.specs.Pool.{IsFree, IsTaken, Pool}
use Rattle.host_memory.proofs.PoolLaws.{gives_back, not_both}
use Rattle.tree_words.specs.Changed.{Adds, TakesAway}
use Rattle.tree_words.specs.Shown.{IsOfTree, Layout, Shows, ShowsAt, Stands}
use Rattle.tree_words.proofs.Showing.{stands_on_root}
use Rattle.tree_words.proofs.NoNodes.{shows_none}
use Rattle.tree_pruner.proofs.Groves.{trees_left}
use Rattle.tree_pruner.specs.Roots.{Roots, root_of}
use Rattle.grove_laws.specs.Groves.{with_for}
use Rattle.grove_laws.specs.Laws.{AreAllTrees, KeptByBuilding, KeptByDropping, KeptByPruning, KeptWithoutTree}
use Rattle.grove_laws.proofs.Changes.{Changes, changed, with_here, with_other}

-- a taken node is one of this function's tree, or of none of its nodes
own_or_not : (f : ℕ) (pool : Pool) (words : List ℕ) (roots : Roots) (runs : ℕ → List Run) (layouts : ℕ → Layout)
    → AreAllTrees f pool words roots runs layouts → (address : ℕ) → IsTaken pool address
    → IsOfTree (layouts f) address ⊎ ¬ IsOfTree (layouts f) address
own_or_not f pool words roots runs layouts all address taken =
    let of = (all.trees.taken address).0 taken in
    elim (cases_eq of.0 f) [
      | inl same ↦ inl (subst (λ (g : ℕ). IsOfTree (layouts g) address) same of.2)
      | inr apart ↦ inr (λ own. apart (all.trees.apart of.0 f address of.1 all.function of.2 own))
    ]

-- A path was built

still_of : (top leaf : ℕ) (old new : Layout) → Adds top leaf old new → (address : ℕ) → IsOfTree old address → IsOfTree new address
still_of top leaf old new adds address (level, k, stands, at) =
    let same = adds.stay level k stands in
    (level, k, (λ none. stands (sym same ∙ none)), at ∙ sym same)

pub kept_by_building : (f : ℕ) → KeptByBuilding f
kept_by_building f old_pool new_pool old new roots runs layouts v built all builds =
    let stays = still_of builds.needs.top builds.needs.leaf (layouts f) builds.new builds.adds in
    let changes : Changes (runs f) (layouts f) builds.new old_pool new_pool old.words new.words built.root = record {
      shows = builds.shows;
      fresh = λ address of. elim (builds.pool.fresh of.0 of.1 of.2) [
        | inl stood ↦ inl (of.0, of.1, stood, of.3 ∙ builds.adds.stay of.0 of.1 stood)
        | inr free ↦ inr (subst (λ (a : ℕ). IsFree old_pool a) (sym of.3) free)
      ];
      takes = λ address taken. elim ((builds.pool.each address).0 taken) [
        | inl was ↦ elim (own_or_not f old_pool old.words roots runs layouts all address was) [
          | inl own ↦ inr (stays address own)
          | inr not ↦ inl (was, not)
        ]
        | inr of ↦ inr of
      ];
      keeps = λ address was not. (builds.pool.each address).1 (inl was);
      has = λ address of. (builds.pool.each address).1 (inr of);
      longer = (let size = builds.others.size in omega arith);
      others = builds.others.others;
    } in
    changed f old_pool new_pool old.words new.words roots runs layouts builds.new built.root all changes

-- A leaf was given back

-- each other node stands where it did
not_the_leaf : (leaf : ℕ) (old new : Layout) → TakesAway leaf old new → (level k : ℕ) → Stands new level k → new level k ≡ old level k
not_the_leaf leaf old new takes level k stands = elim (cases_eq level 0) [
  | inl low ↦ elim (cases_eq k leaf) [
    | inl same ↦ absurd (stands (ap (λ (l : ℕ). new l k) low ∙ ap (λ (j : ℕ). new 0 j) same ∙ takes.gone))
    | inr apart ↦ takes.others level k (inr apart)
  ]
  | inr high ↦ takes.others level k (inl high)
]

was_of : (leaf : ℕ) (old new : Layout) → TakesAway leaf old new → (address : ℕ) → IsOfTree new address → IsOfTree old address
was_of leaf old new takes address (level, k, stands, at) =
    let same = not_the_leaf leaf old new takes level k stands in
    (level, k, (λ none. stands (same ∙ none)), at ∙ same)

-- a node that stood elsewhere than the leaf stands still
of_still : (leaf : ℕ) (old new : Layout) → TakesAway leaf old new → (address : ℕ) → IsOfTree old address → address ≢ old 0 leaf
    → IsOfTree new address
of_still leaf old new takes address (level, k, stands, at) apart =
    let other : (level ≢ 0) ⊎ (k ≢ leaf) = elim (cases_eq level 0) [
      | inl low ↦ inr (λ same. apart (at ∙ ap (λ (l : ℕ). old l k) low ∙ ap (λ (j : ℕ). old 0 j) same))
      | inr high ↦ inl high
    ] in
    let same = takes.others level k other in
    (level, k, (λ none. stands (sym same ∙ none)), at ∙ sym same)

-- no node that stands has the leaf's address
of_no_leaf : (words : List ℕ) (runs : List Run) (top leaf : ℕ) (old new : Layout) → ShowsAt words runs top old → TakesAway leaf old new
    → (address : ℕ) → IsOfTree new address → address ≢ old 0 leaf
of_no_leaf words runs top leaf old new shows takes address (level, k, stands, at) same =
    let was = not_the_leaf leaf old new takes level k stands in
    let one = shows.apart level k 0 leaf (λ none. stands (was ∙ none)) (sym was ∙ sym at ∙ same) in
    stands (ap (λ (l : ℕ). new l k) one.0 ∙ ap (λ (j : ℕ). new 0 j) one.1 ∙ takes.gone)

pub kept_by_pruning : (f : ℕ) → KeptByPruning f
kept_by_pruning f old_pool new_pool old new roots runs layouts v pruned all takes =
    let place : ℕ = layouts f 0 takes.leaf in
    let back = gives_back old_pool new_pool place takes.gives in
    let shown = all.trees.shows f all.function in
    let away = takes.takes in
    let changes : Changes (runs f) (layouts f) takes.new old_pool new_pool old.words new.words pruned.root = record {
      shows = takes.shows;
      fresh = λ address of. inl (was_of takes.leaf (layouts f) takes.new away address of);
      takes = λ address taken.
          let apart : address ≢ place = λ same. not_both new_pool address taken (subst (λ (a : ℕ). IsFree new_pool a) (sym same) back.after) in
          let was : IsTaken old_pool address = (back.others.taken address apart).1 taken in
          elim (own_or_not f old_pool old.words roots runs layouts all address was) [
            | inl own ↦ inr (of_still takes.leaf (layouts f) takes.new away address own apart)
            | inr not ↦ inl (was, not)
          ];
      keeps = λ address was not.
          let apart : address ≢ place = λ same. not (0, takes.leaf, takes.stood, same) in
          (back.others.taken address apart).0 was;
      has = λ address of.
          let apart = of_no_leaf old.words (runs f) shown.top takes.leaf (layouts f) takes.new shown.shows away address of in
          let own = was_of takes.leaf (layouts f) takes.new away address of in
          (back.others.taken address apart).0 ((all.trees.taken address).1 (f, all.function, own));
      longer = (let size = takes.others.size in omega arith);
      others = takes.others.others;
    } in
    changed f old_pool new_pool old.words new.words roots runs layouts takes.new pruned.root all changes

-- A tree was given up

pub kept_by_dropping : (f : ℕ) → KeptByDropping f
kept_by_dropping f old new words runs layouts all gives = record {
  function = all.function;
  rooted = ap (λ (roots : Roots). length roots) gives.root ∙ length-set old.roots (f - 1) 0 ∙ all.rooted;
  trees = trees_left words runs layouts f old new all.function all.trees gives;
}

-- The runs of a file changed

pub kept_without_tree : (f : ℕ) → KeptWithoutTree f
kept_without_tree f pool words roots runs layouts others all zero are =
    let none : (level k : ℕ) → layouts f level k ≡ 0 =
    stands_on_root words (runs f) (layouts f)
    (subst (λ (r : ℕ). Shows words r (runs f) (layouts f)) zero (all.trees.shows f all.function)) in
    record {
      function = all.function;
      rooted = all.rooted;
      trees = record {
        are_runs = λ g function. elim (cases_eq g f) [
          | inl same ↦ subst (λ (r : List Run). AreRuns r) (sym (with_here runs f others g same)) are
          | inr apart ↦ subst (λ (r : List Run). AreRuns r) (sym (with_other runs f others g apart)) (all.trees.are_runs g function)
        ];
        shows = λ g function. elim (cases_eq g f) [
          | inl same ↦ shows_none words (root_of roots g) (with_for runs f others g) (layouts g)
              (ap (λ (n : ℕ). root_of roots n) same ∙ zero)
              (λ level k. ap (λ (n : ℕ). layouts n level k) same ∙ none level k)
          | inr apart ↦ subst (λ (r : List Run). Shows words (root_of roots g) r (layouts g)) (sym (with_other runs f others g apart))
              (all.trees.shows g function)
        ];
        apart = all.trees.apart;
        taken = all.trees.taken;
      };
    }
