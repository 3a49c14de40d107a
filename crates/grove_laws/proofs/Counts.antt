-- As many nodes are given back as a tree has.
use Rattle.std.proofs.Common.{◌≡◌, ◌≢◌, inl, inr, ℕ, zero, suc, ◌+◌, ◌<◌, Bool, true, false, List, [], ◌∷◌, length, get_or, Some, slice_get, refl, sym, ap, subst, ◌∙◌, arith}
use Rattle.std.specs.Prelude.{slice_set}
use Rattle.std.proofs.lemmas.Bool.{cases_Bool, false≢true}
use Rattle.std.proofs.lemmas.List.{same_lists}
use Rattle.std.proofs.lemmas.Option.{get_or_from_slice_get, none-some, same_Some, slice_get-get_or}
use Rattle.host_memory.specs.Pool.{GivesBack, HasGivenBack, IsFree, IsTaken, Pool, address_of, free_of}
use Rattle.host_memory.proofs.PoolLaws.{gives_back, not_both, same_node}
use Rattle.tree_words.specs.Shown.{Layout}
use Rattle.tree_words.proofs.Trees.{of_tree_taken}
use Rattle.grove_laws.specs.Laws.{CountsNodes}

-- the address is in the list
abbrev InList : List ℕ → ℕ → Type 0
InList nodes address = (j : ℕ) × (slice_get nodes j ≡ Some address)

-- Pools in which the same nodes are taken are the same

stays_taken : (old new : Pool) (k : ℕ) → ((address : ℕ) → IsTaken old address → IsTaken new address)
    → slice_get old.taken k ≡ Some true → slice_get new.taken k ≡ Some true
stays_taken old new k keeps is =
    let taken = keeps (address_of k) (k, refl, is) in
    let same : taken.0 ≡ k = same_node taken.0 k (sym taken.1) in
    ap (λ (j : ℕ). slice_get new.taken j) (sym same) ∙ taken.2

same_mark : (old new : Pool) (k : ℕ) (d : Bool) → length new.taken ≡ length old.taken
    → ((address : ℕ) → IsTaken old address → IsTaken new address) → ((address : ℕ) → IsTaken new address → IsTaken old address)
    → k < length new.taken → get_or new.taken k d ≡ get_or old.taken k d
same_mark old new k d many keeps more within =
    let less : k < length old.taken = omega arith in
    let was = slice_get-get_or old.taken k d less in
    let is = slice_get-get_or new.taken k d within in
    elim (cases_Bool (get_or old.taken k d)) [
      | inl on ↦
          let still = stays_taken old new k keeps (was ∙ ap (λ (b : Bool). Some b) on) in
          get_or_from_slice_get new.taken k true d still ∙ sym on
      | inr off ↦ elim (cases_Bool (get_or new.taken k d)) [
        | inl on ↦ absurd (
            let before = stays_taken new old k more (is ∙ ap (λ (b : Bool). Some b) on) in
            false≢true (sym off ∙ get_or_from_slice_get old.taken k true d before))
        | inr too ↦ too ∙ sym off
      ]
    ]

same_free : (old new : Pool) → length new.taken ≡ length old.taken → ((address : ℕ) → IsTaken old address → IsTaken new address)
    → ((address : ℕ) → IsTaken new address → IsTaken old address) → free_of new ≡ free_of old
same_free old new many keeps more =
    let same : new.taken ≡ old.taken =
    same_lists new.taken old.taken many (λ k d within. same_mark old new k d many keeps more within) in
    ap (λ (marks : List Bool). free_of (record { taken = marks })) same

-- Nodes that are given back one by one

-- no address stands twice in the list
abbrev IsOnce : List ℕ → Type 0
IsOnce nodes = (i j address : ℕ) → slice_get nodes i ≡ Some address → slice_get nodes j ≡ Some address → i ≡ j

-- the nodes of the list were taken and are free, and no other
record FreesList (nodes : List ℕ) (old new : Pool) : Type 0 where
  before : (address : ℕ) → InList nodes address → IsTaken old address
  after : (address : ℕ) → IsTaken new address → IsTaken old address × ¬ InList nodes address
  others : (address : ℕ) → IsTaken old address → ¬ InList nodes address → IsTaken new address
  as_many : length new.taken ≡ length old.taken

once_later : (node : ℕ) (nodes : List ℕ) → IsOnce (node ∷ nodes) → IsOnce nodes
once_later node nodes once i j address one other = let same : suc i ≡ suc j = once (suc i) (suc j) address one other in omega arith

-- the first does not stand among the others
not_later : (node : ℕ) (nodes : List ℕ) → IsOnce (node ∷ nodes) → ¬ InList nodes node
not_later node nodes once (j, is) = let same : 0 ≡ suc j = once 0 (suc j) node refl is in omega arith

not_in : (node : ℕ) (nodes : List ℕ) (address : ℕ) → address ≢ node → ¬ InList nodes address → ¬ InList (node ∷ nodes) address
not_in node nodes address apart not (zero, is) = apart (sym (same_Some node address is))
not_in node nodes address apart not (suc j, is) = not (j, is)

frees_later : (node : ℕ) (nodes : List ℕ) (old mid new : Pool) → IsOnce (node ∷ nodes) → FreesList (node ∷ nodes) old new
    → HasGivenBack old node mid → FreesList nodes mid new
frees_later node nodes old mid new once frees back = record {
  before = λ address in_list.
      let apart : address ≢ node = λ same. not_later node nodes once (subst (λ (a : ℕ). InList nodes a) same in_list) in
      (back.others.taken address apart).0 (frees.before address (suc in_list.0, in_list.1));
  after = λ address taken.
      let was = frees.after address taken in
      let apart : address ≢ node = λ same. was.1 (0, ap (λ (a : ℕ). Some a) (sym same)) in
      ((back.others.taken address apart).0 was.0, λ in_list. was.1 (suc in_list.0, in_list.1));
  others = λ address taken not.
      let apart : address ≢ node = λ same. not_both mid address taken (subst (λ (a : ℕ). IsFree mid a) (sym same) back.after) in
      frees.others address ((back.others.taken address apart).1 taken) (not_in node nodes address apart not);
  as_many = frees.as_many ∙ sym back.as_many;
}

frees_counted : (nodes : List ℕ) (old new : Pool) → IsOnce nodes → FreesList nodes old new → free_of new ≡ free_of old + length nodes
frees_counted [] old new once frees =
    let same = same_free old new frees.as_many
    (λ address taken. frees.others address taken (λ in_list. none-some address in_list.1))
    (λ address taken. (frees.after address taken).0) in
    omega arith
frees_counted (node ∷ nodes) old new once frees =
    let first = frees.before node (0, refl) in
    let mid : Pool = record { taken = slice_set old.taken first.0 false } in
    let gives : GivesBack old node mid = record { k = first.0; at = first.1; was_taken = first.2; marks = refl } in
    let back = gives_back old mid node gives in
    let one : free_of mid ≡ free_of old + 1 = back.one_more in
    let rest : free_of new ≡ free_of mid + length nodes =
    frees_counted nodes mid new (once_later node nodes once) (frees_later node nodes old mid new once frees back) in
    omega arith

pub counts_nodes : (layout : Layout) → CountsNodes layout
counts_nodes layout nodes count old new list taken gives =
    let frees : FreesList nodes old new = record {
      before = λ address in_list. of_tree_taken old layout address taken ((list.each address).1 in_list);
      after = λ address is.
          let was = (gives.each address).0 is in
          (was.0, λ in_list. was.1 ((list.each address).1 in_list));
      others = λ address is not. (gives.each address).1 (is, λ of. not ((list.each address).0 of));
      as_many = gives.as_many;
    } in
    let counted = frees_counted nodes old new list.once frees in
    let said = gives.count_is in
    omega arith
