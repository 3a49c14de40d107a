-- The trees of all functions, when one of them was given up.
use Rattle.std.proofs.Common.{◌≡◌, ◌≢◌, ◌⊎◌, inl, inr, ℕ, ◌-◌, Bool, List, [], ◌∷◌, ◌++◌, length, get_or, replicate, Some, false, refl, sym, ap, subst, ◌∙◌, arith}
use Rattle.std.specs.Prelude.{slice_set}
use Rattle.std.proofs.lemmas.Bool.{cases_Bool, cases_eq, cases_lt, cond-false, cond-true, eq-eqb, ne_eqb}
use Rattle.std.proofs.lemmas.List.{get_or-replicate, get_or-set_other, get_or-set_same, get_or_past, length-replicate, length-set, same_lists}
use Rattle.std.proofs.lemmas.Option.{slice_get-get_or}
use Rattle.nesc_base.specs.declared.runs.Run.{Run}
use Rattle.host_memory.specs.Pool.{IsTaken, Pool, address_of, free_of}
use Rattle.host_memory.proofs.PoolLaws.{free_of_all}
use Rattle.tree_words.specs.Shown.{IsOfTree, Layout, Shows, no_nodes}
use Rattle.tree_words.proofs.NoNodes.{shows_none}
use Rattle.tree_words.proofs.Showing.{stands_on_root}
use Rattle.tree_pruner.specs.Dropping.{HasTree}
use Rattle.tree_pruner.specs.Reclaiming.{AreTrees, DropsRoot, GivesUp, Grove, without_tree, without_trees}
use Rattle.tree_pruner.specs.Roots.{IsFunction, Roots, root_of}

-- Roots

pub root_gone : (roots : Roots) (g : ℕ) → root_of (slice_set roots (g - 1) 0) g ≡ 0
root_gone roots g = elim (cases_lt (g - 1) (length roots)) [
  | inl within ↦ get_or-set_same roots (g - 1) 0 0 within
  | inr past ↦ get_or_past (slice_set roots (g - 1) 0) (g - 1) 0 (let many = length-set roots (g - 1) 0 in omega arith)
]

pub root_stays : (roots : Roots) (f g : ℕ) → IsFunction f → IsFunction g → f ≢ g
    → root_of (slice_set roots (g - 1) 0) f ≡ root_of roots f
root_stays roots f g function other apart =
    let first = function.first in
    let one = other.first in
    get_or-set_other roots (g - 1) (f - 1) 0 0 (λ same. apart (omega arith))

-- Trees that have gone

gone_here : (layouts : ℕ → Layout) (g f : ℕ) → f ≡ g → without_tree g layouts f ≡ no_nodes
gone_here layouts g f same = cond-true _ no_nodes (layouts f) (eq-eqb f g same)

stays_there : (layouts : ℕ → Layout) (g f : ℕ) → f ≢ g → without_tree g layouts f ≡ layouts f
stays_there layouts g f apart = cond-false _ no_nodes (layouts f) (ne_eqb f g apart)

-- a function's tree is as it was, or has gone
pub gone_or_there : (layouts : ℕ → Layout) (victims : List ℕ) (f : ℕ)
    → (without_trees victims layouts f ≡ layouts f) ⊎ (without_trees victims layouts f ≡ no_nodes)
gone_or_there layouts [] f = inl refl
gone_or_there layouts (g ∷ others) f = elim (gone_or_there (without_tree g layouts) others f) [
  | inl there ↦ elim (cases_eq f g) [
    | inl same ↦ inr (there ∙ gone_here layouts g f same)
    | inr apart ↦ inl (there ∙ stays_there layouts g f apart)
  ]
  | inr gone ↦ inr gone
]

pub one_more_gone : (layouts : ℕ → Layout) (victims : List ℕ) (g : ℕ)
    → without_trees (victims ++ g ∷ []) layouts ≡ without_tree g (without_trees victims layouts)
one_more_gone layouts [] g = refl
one_more_gone layouts (first ∷ others) g = one_more_gone (without_tree first layouts) others g

-- What is shown

module _ (words : List ℕ) (runs : ℕ → List Run) (layouts : ℕ → Layout) (g : ℕ) (old new : Grove) (function : IsFunction g)
    (trees : AreTrees old.pool words old.roots runs layouts) (gives : GivesUp layouts g old new) where
  shows_left : (f : ℕ) → IsFunction f → Shows words (root_of (slice_set old.roots (g - 1) 0) f) (runs f) (without_tree g layouts f)
  shows_left f is = elim (cases_eq f g) [
    | inl same ↦
        let root : root_of (slice_set old.roots (g - 1) 0) f ≡ 0 =
        ap (λ (n : ℕ). root_of (slice_set old.roots (g - 1) 0) n) same ∙ root_gone old.roots g in
        subst (λ (layout : Layout). Shows words (root_of (slice_set old.roots (g - 1) 0) f) (runs f) layout)
        (sym (gone_here layouts g f same)) (shows_none words _ (runs f) no_nodes root (λ level k. refl))
    | inr apart ↦
        let under : Shows words (root_of old.roots f) (runs f) (without_tree g layouts f) =
        subst (λ (layout : Layout). Shows words (root_of old.roots f) (runs f) layout) (sym (stays_there layouts g f apart))
        (trees.shows f is) in
        subst (λ (root : ℕ). Shows words root (runs f) (without_tree g layouts f)) (sym (root_stays old.roots f g is function apart)) under
  ]

  -- a node that is left is one of another function's tree
  of_other : (f address : ℕ) → IsOfTree (without_tree g layouts f) address → (f ≢ g) × IsOfTree (layouts f) address
  of_other f address of = elim (cases_eq f g) [
    | inl same ↦
        let none : IsOfTree no_nodes address =
        subst (λ (layout : Layout). IsOfTree layout address) (gone_here layouts g f same) of in
        absurd (none.2 refl)
    | inr apart ↦ (apart, subst (λ (layout : Layout). IsOfTree layout address) (stays_there layouts g f apart) of)
  ]

  taken_left : (address : ℕ) → IsTaken new.pool address → (f : ℕ) × IsFunction f × IsOfTree (without_tree g layouts f) address
  taken_left address taken =
      let was = (gives.nodes.each address).0 taken in
      let of = (trees.taken address).0 was.0 in
      let apart : of.0 ≢ g = λ same. was.1 (subst (λ (f : ℕ). IsOfTree (layouts f) address) same of.2) in
      (of.0, of.1, subst (λ (layout : Layout). IsOfTree layout address) (sym (stays_there layouts g of.0 apart)) of.2)

  left_taken : (f address : ℕ) → IsFunction f → IsOfTree (without_tree g layouts f) address → IsTaken new.pool address
  left_taken f address is of =
      let other = of_other f address of in
      (gives.nodes.each address).1 (
        (trees.taken address).1 (f, is, other.1),
        λ own. other.0 (trees.apart f g address is function other.1 own),
      )

  -- when function g has given up its tree, all others are as they were
  pub trees_left : AreTrees new.pool words new.roots runs (without_tree g layouts)
  trees_left = subst (λ (roots : Roots). AreTrees new.pool words roots runs (without_tree g layouts)) (sym gives.root) (record {
    are_runs = trees.are_runs;
    shows = shows_left;
    apart = λ f h address is also one other.
        trees.apart f h address is also (of_other f address one).1 (of_other h address other).1;
    taken = λ address. (taken_left address, λ of. left_taken of.0 address of.1 of.2);
  })

-- a function's tree may be given back
pub has_tree : (pool : Pool) (words : List ℕ) (roots : Roots) (runs : ℕ → List Run) (layouts : ℕ → Layout) (g : ℕ) → IsFunction g
    → AreTrees pool words roots runs layouts → HasTree pool words (root_of roots g)
has_tree pool words roots runs layouts g function trees = record {
  runs = runs g;
  are_runs = trees.are_runs g function;
  layout = layouts g;
  shows = trees.shows g function;
  taken = λ level k stands. (trees.taken (layouts g level k)).1 (g, function, (level, k, stands, refl));
}

-- a function that still has a root has given nothing up
pub tree_there : (pool : Pool) (words : List ℕ) (roots : Roots) (runs : ℕ → List Run) (layouts : ℕ → Layout) (victims : List ℕ)
    (g : ℕ) → IsFunction g → AreTrees pool words roots runs (without_trees victims layouts) → root_of roots g ≢ 0
    → without_trees victims layouts g ≡ layouts g
tree_there pool words roots runs layouts victims g function trees stood = elim (gone_or_there layouts victims g) [
  | inl there ↦ there
  | inr gone ↦ absurd (
      let shows : Shows words (root_of roots g) (runs g) no_nodes =
      subst (λ (layout : Layout). Shows words (root_of roots g) (runs g) layout) gone (trees.shows g function) in
      stood shows.root_is)
]

-- the root that has gone was that of the function's own tree
pub gives_up : (words : List ℕ) (runs : ℕ → List Run) (layouts : ℕ → Layout) (g bit : ℕ) (old new : Grove) → IsFunction g
    → AreTrees old.pool words old.roots runs layouts → DropsRoot words g bit old new → GivesUp layouts g old new
gives_up words runs layouts g bit old new function trees drops = record {
  stood = drops.stood;
  count = drops.count;
  nodes = drops.drops (runs g) (layouts g) (trees.are_runs g function) (trees.shows g function);
  root = drops.root;
}

-- All gone

-- where no function has a root, no node is taken
none_taken : (pool : Pool) (words : List ℕ) (roots : Roots) (runs : ℕ → List Run) (layouts : ℕ → Layout)
    → AreTrees pool words roots runs layouts → ((g : ℕ) → IsFunction g → root_of roots g ≡ 0) → (address : ℕ) → ¬ IsTaken pool address
none_taken pool words roots runs layouts trees none address taken =
    let of = (trees.taken address).0 taken in
    let shows : Shows words 0 (runs of.0) (layouts of.0) =
    subst (λ (root : ℕ). Shows words root (runs of.0) (layouts of.0)) (none of.0 of.1) (trees.shows of.0 of.1) in
    of.2.2 (stands_on_root words (runs of.0) (layouts of.0) shows of.2.0 of.2.1)

all_marked_free : (pool : Pool) → ((address : ℕ) → ¬ IsTaken pool address) → pool.taken ≡ replicate (length pool.taken) false
all_marked_free pool none =
    same_lists pool.taken (replicate (length pool.taken) false) (sym (length-replicate (length pool.taken) false)) (λ k d within.
    elim (cases_Bool (get_or pool.taken k d)) [
      | inl on ↦ absurd (none (address_of k) (k, refl, slice_get-get_or pool.taken k d within ∙ ap (λ (b : Bool). Some b) on))
      | inr off ↦ off ∙ sym (get_or-replicate (length pool.taken) k false d within)
    ])

-- and all are free
pub all_given_back : (pool : Pool) (words : List ℕ) (roots : Roots) (runs : ℕ → List Run) (layouts : ℕ → Layout)
    → AreTrees pool words roots runs layouts → ((g : ℕ) → IsFunction g → root_of roots g ≡ 0) → free_of pool ≡ length pool.taken
all_given_back pool words roots runs layouts trees none =
    ap (λ (marks : List Bool). free_of (record { taken = marks })) (all_marked_free pool (none_taken pool words roots runs layouts trees none))
    ∙ free_of_all (length pool.taken)
