-- The trees of all functions after that of one has changed.
use Rattle.std.proofs.Common.{◌≡◌, ◌≢◌, ◌⊎◌, inl, inr, ℕ, ◌-◌, ◌<◌, ◌≤◌, List, length, refl, sym, ap, subst, ◌∙◌, arith}
use Rattle.std.specs.Prelude.{slice_set}
use Rattle.std.proofs.lemmas.Bool.{cases_eq, cond-false, cond-true, eq-eqb, ne_eqb}
use Rattle.std.proofs.lemmas.List.{get_or-set_other, get_or-set_same, length-set}
use Rattle.nesc_base.specs.Memory.{IsNodeOf, node_at}
use Rattle.nesc_base.specs.declared.runs.Run.{Run}
use Rattle.nesc_requests.specs.Machine.{most_functions}
use Rattle.host_memory.specs.Pool.{IsFree, IsTaken, Pool}
use Rattle.host_memory.proofs.PoolLaws.{not_both}
use Rattle.tree_words.specs.Shown.{IsOfTree, Layout, Shows}
use Rattle.tree_words.proofs.Showing.{stays_shown}
use Rattle.tree_pruner.specs.Roots.{IsFunction, Roots, root_of}
use Rattle.grove_laws.specs.Groves.{with_for}
use Rattle.grove_laws.specs.Laws.{AreAllTrees}

pub with_here : {X : Type 0} (given : ℕ → X) (f : ℕ) (own : X) (g : ℕ) → g ≡ f → with_for given f own g ≡ own
with_here given f own g same = cond-true _ own (given g) (eq-eqb g f same)

pub with_other : {X : Type 0} (given : ℕ → X) (f : ℕ) (own : X) (g : ℕ) → g ≢ f → with_for given f own g ≡ given g
with_other given f own g apart = cond-false _ own (given g) (ne_eqb g f apart)

root_here : (roots : Roots) (f root g : ℕ) → length roots ≡ most_functions → IsFunction f → g ≡ f
    → root_of (slice_set roots (f - 1) root) g ≡ root
root_here roots f root g rooted function same =
    let first = function.first in
    let last = function.last in
    let within : f - 1 < length roots = omega arith in
    ap (λ (n : ℕ). root_of (slice_set roots (f - 1) root) n) same ∙ get_or-set_same roots (f - 1) root 0 within

root_other : (roots : Roots) (f root g : ℕ) → IsFunction f → IsFunction g → g ≢ f
    → root_of (slice_set roots (f - 1) root) g ≡ root_of roots g
root_other roots f root g function other apart =
    let first = function.first in
    let one = other.first in
    get_or-set_other roots (f - 1) (g - 1) root 0 (λ same. apart (omega arith))

-- What changed: the words show another tree under another root of this function, its new nodes were free, and neither other
-- nodes nor the pool have changed else.
pub record Changes (runs : List Run) (old new : Layout) (old_pool new_pool : Pool) (old_words new_words : List ℕ) (root : ℕ) : Type 0 where
  pub shows : Shows new_words root runs new
  pub fresh : (address : ℕ) → IsOfTree new address → IsOfTree old address ⊎ IsFree old_pool address
  pub takes : (address : ℕ) → IsTaken new_pool address → (IsTaken old_pool address × ¬ IsOfTree old address) ⊎ IsOfTree new address
  pub keeps : (address : ℕ) → IsTaken old_pool address → ¬ IsOfTree old address → IsTaken new_pool address
  pub has : (address : ℕ) → IsOfTree new address → IsTaken new_pool address
  pub longer : length old_words ≤ length new_words
  pub others : (address : ℕ) → IsNodeOf old_words address → ¬ IsOfTree new address → node_at new_words address ≡ node_at old_words address

module _ (f : ℕ) (old_pool new_pool : Pool) (old_words new_words : List ℕ) (roots : Roots) (runs : ℕ → List Run) (layouts : ℕ → Layout)
    (new : Layout) (root : ℕ) (all : AreAllTrees f old_pool old_words roots runs layouts)
    (changes : Changes (runs f) (layouts f) new old_pool new_pool old_words new_words root) where
  -- a node of another function's tree is none of the new one
  not_new : (g address : ℕ) → IsFunction g → g ≢ f → IsOfTree (layouts g) address → ¬ IsOfTree new address
  not_new g address function apart of is = elim (changes.fresh address is) [
    | inl before ↦ apart (all.trees.apart g f address function all.function of before)
    | inr free ↦ not_both old_pool address ((all.trees.taken address).1 (g, function, of)) free
  ]

  shows_all : (g : ℕ) → IsFunction g → Shows new_words (root_of (slice_set roots (f - 1) root) g) (runs g) (with_for layouts f new g)
  shows_all g function = elim (cases_eq g f) [
    | inl same ↦
        let own : Shows new_words root (runs g) new = subst (λ (n : ℕ). Shows new_words root (runs n) new) (sym same) changes.shows in
        let under : Shows new_words root (runs g) (with_for layouts f new g) =
        subst (λ (layout : Layout). Shows new_words root (runs g) layout) (sym (with_here layouts f new g same)) own in
        subst (λ (r : ℕ). Shows new_words r (runs g) (with_for layouts f new g))
        (sym (root_here roots f root g all.rooted all.function same)) under
    | inr apart ↦
        let was : Shows old_words (root_of roots g) (runs g) (layouts g) = all.trees.shows g function in
        let still : Shows new_words (root_of roots g) (runs g) (layouts g) =
        stays_shown old_words new_words (root_of roots g) (runs g) (layouts g) changes.longer
        (λ level k stands. changes.others (layouts g level k) (was.shows.placed level k stands)
        (not_new g (layouts g level k) function apart (level, k, stands, refl))) was in
        let under : Shows new_words (root_of roots g) (runs g) (with_for layouts f new g) =
        subst (λ (layout : Layout). Shows new_words (root_of roots g) (runs g) layout) (sym (with_other layouts f new g apart)) still in
        subst (λ (r : ℕ). Shows new_words r (runs g) (with_for layouts f new g))
        (sym (root_other roots f root g all.function function apart)) under
  ]

  -- the node of a tree is one of the new tree, or of another function's
  of_which : (g address : ℕ) → IsOfTree (with_for layouts f new g) address
      → ((g ≡ f) × IsOfTree new address) ⊎ ((g ≢ f) × IsOfTree (layouts g) address)
  of_which g address of = elim (cases_eq g f) [
    | inl same ↦ inl (same, subst (λ (layout : Layout). IsOfTree layout address) (with_here layouts f new g same) of)
    | inr apart ↦ inr (apart, subst (λ (layout : Layout). IsOfTree layout address) (with_other layouts f new g apart) of)
  ]

  apart_all : (g h address : ℕ) → IsFunction g → IsFunction h → IsOfTree (with_for layouts f new g) address
      → IsOfTree (with_for layouts f new h) address → g ≡ h
  apart_all g h address function other one also = elim (of_which g address one) [
    | inl own ↦ elim (of_which h address also) [
      | inl too ↦ own.0 ∙ sym too.0
      | inr else ↦ absurd (not_new h address other else.0 else.1 own.1)
    ]
    | inr else ↦ elim (of_which h address also) [
      | inl own ↦ absurd (not_new g address function else.0 else.1 own.1)
      | inr too ↦ all.trees.apart g h address function other else.1 too.1
    ]
  ]

  taken_of : (address : ℕ) → IsTaken new_pool address → (g : ℕ) × IsFunction g × IsOfTree (with_for layouts f new g) address
  taken_of address taken = elim (changes.takes address taken) [
    | inl still ↦
        let of = (all.trees.taken address).0 still.0 in
        let apart : of.0 ≢ f = λ same. still.1 (subst (λ (g : ℕ). IsOfTree (layouts g) address) same of.2) in
        (of.0, of.1, subst (λ (layout : Layout). IsOfTree layout address) (sym (with_other layouts f new of.0 apart)) of.2)
    | inr own ↦ (f, all.function, subst (λ (layout : Layout). IsOfTree layout address) (sym (with_here layouts f new f refl)) own)
  ]

  of_taken : (g address : ℕ) → IsFunction g → IsOfTree (with_for layouts f new g) address → IsTaken new_pool address
  of_taken g address function of = elim (of_which g address of) [
    | inl own ↦ changes.has address own.1
    | inr else ↦ changes.keeps address ((all.trees.taken address).1 (g, function, else.1))
        (λ own. else.0 (all.trees.apart g f address function all.function else.1 own))
  ]

  pub changed : AreAllTrees f new_pool new_words (slice_set roots (f - 1) root) runs (with_for layouts f new)
  changed = record {
    function = all.function;
    rooted = length-set roots (f - 1) root ∙ all.rooted;
    trees = record {
      are_runs = all.trees.are_runs;
      shows = shows_all;
      apart = apart_all;
      taken = λ address. (taken_of address, λ of. of_taken of.0 address of.1 of.2);
    };
  }
