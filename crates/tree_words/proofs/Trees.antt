-- Trees whose nodes are taken from one pool.
use Rattle.std.proofs.Common.{inl, inr, ℕ, List, length, sym, subst}
use Rattle.std.proofs.lemmas.Bool.{cases_eq}
use Rattle.nesc_base.specs.Memory.{IsNodeOf}
use Rattle.host_memory.specs.Pool.{HasRoom, IsFree, IsTaken, Pool, Takes}
use Rattle.host_memory.proofs.PoolLaws.{is_node_of, not_both, takes}
use Rattle.tree_words.specs.Laws.{StayApart}
use Rattle.tree_words.specs.Pools.{AreTaken}
use Rattle.tree_words.specs.Shown.{IsOfTree, Layout, Stands}

pub of_tree_taken : (pool : Pool) (layout : Layout) (address : ℕ) → AreTaken pool layout → IsOfTree layout address → IsTaken pool address
of_tree_taken pool layout address taken of = subst (λ (a : ℕ). IsTaken pool a) (sym of.3) (taken of.0 of.1 of.2)

-- a free node is of no tree
pub free_of_none : (pool : Pool) (layout : Layout) (address : ℕ) → AreTaken pool layout → IsFree pool address → ¬ IsOfTree layout address
free_of_none pool layout address taken free of = not_both pool address (of_tree_taken pool layout address taken of) free

-- taking a node leaves all that were taken
pub stay_taken : (old new : Pool) (address : ℕ) (layout : Layout) → Takes old address new → AreTaken old layout → AreTaken new layout
stay_taken old new address layout call taken level k stands =
    let has = takes old new address call in
    elim (cases_eq (layout level k) address) [
      | inl same ↦ subst (λ (a : ℕ). IsTaken new a) (sym same) has.after
      | inr apart ↦ (has.others.taken (layout level k) apart).0 (taken level k stands)
    ]

-- each node that stands is in a memory that has room for all nodes of the pool
pub are_placed : (words : List ℕ) (pool : Pool) (layout : Layout) → HasRoom (length words) pool → AreTaken pool layout
    → (level k : ℕ) → Stands layout level k → IsNodeOf words (layout level k)
are_placed words pool layout room taken level k stands = is_node_of words pool (layout level k) room (taken level k stands)

pub stay_apart : (pool : Pool) (other : Layout) → StayApart pool other
stay_apart pool other old new taken apart grows address of is = elim (grows of.0 of.1 of.2) [
  | inl before ↦ apart (new of.0 of.1) before (subst (λ (a : ℕ). IsOfTree other a) of.3 is)
  | inr free ↦ free_of_none pool other (new of.0 of.1) taken free (subst (λ (a : ℕ). IsOfTree other a) of.3 is)
]
