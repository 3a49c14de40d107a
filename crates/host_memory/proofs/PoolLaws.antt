-- The laws of a pool: what its calls leave, and where its nodes stand.
use Rattle.std.proofs.Common.{◌≡◌, ◌≢◌, ℕ, ◌+◌, ◌-◌, ◌/◌, ◌<◌, ◌≤◌, ◌⊎◌, inl, inr, Bool, true, false, List, Option, None, Some, MatchOption, get_or, length, replicate, slice_get, refl, sym, ap, ◌∙◌, subst, arith}
use Rattle.std.specs.Prelude.{not, slice_set}
use Rattle.std.proofs.lemmas.Bool.{cases_Bool, false≢true}
use Rattle.std.proofs.lemmas.List.{get_or-replicate, length-replicate, length-set}
use Rattle.std.proofs.lemmas.List.Folds.{sum_by-replicate}
use Rattle.std.proofs.lemmas.List.Sums.{count_by-le-length}
use Rattle.std.proofs.lemmas.Option.{get_or_from_slice_get, same_Some, slice_get-get_or, slice_get_within}
use Rattle.nesc_base.specs.Memory.{IsNodeOf, node_size}
use Rattle.nesc_base.proofs.Differing.{slice_get-set_same, slice_get-set_other}
use Rattle.host_memory.specs.Pool.{GivesBack, HasGivenBack, HasRoom, HasTaken, IsAddress, IsFree, IsKeptBut, IsTaken, IsUsedUp, Pool, Takes, address_of, all_free, free_of}
use Rattle.host_memory.proofs.Sounding.{count_given, count_taken, one_if_free}

-- Addresses

-- no two nodes have one address
pub same_node : (j k : ℕ) → address_of j ≡ address_of k → j ≡ k
same_node j k same = omega arith

address_of_node : (taken : List Bool) (k : ℕ) (b : Bool) → slice_get taken k ≡ Some b → IsAddress (length taken) (address_of k)
address_of_node taken k b is =
    let within : k < length taken = slice_get_within taken k b is in
    record { aligned = omega arith; from = omega arith; to = omega arith }

pub taken_is_address : (pool : Pool) (address : ℕ) → IsTaken pool address → IsAddress (length pool.taken) address
taken_is_address pool address taken = subst (IsAddress (length pool.taken)) (sym taken.1) (address_of_node pool.taken taken.0 true taken.2)

pub free_is_address : (pool : Pool) (address : ℕ) → IsFree pool address → IsAddress (length pool.taken) address
free_is_address pool address free = subst (IsAddress (length pool.taken)) (sym free.1) (address_of_node pool.taken free.0 false free.2)

-- the words of a node that is taken are in a memory that has room for all of them
pub is_node_of : (words : List ℕ) (pool : Pool) (address : ℕ) → HasRoom (length words) pool → IsTaken pool address → IsNodeOf words address
is_node_of words pool address room taken =
    let is : IsAddress (length pool.taken) address = taken_is_address pool address taken in
    record { aligned = is.aligned; within = omega (arith, room, is.to) }

-- no node is both taken and free
pub not_both : (pool : Pool) (address : ℕ) → IsTaken pool address → IsFree pool address → ⊥
not_both pool address taken free =
    let same : free.0 ≡ taken.0 = same_node free.0 taken.0 (sym free.1 ∙ taken.1) in
    false≢true (same_Some false true (sym free.2 ∙ ap (slice_get pool.taken) same ∙ taken.2))

-- and each is one of the two
pub taken_or_free : (pool : Pool) (address : ℕ) → IsAddress (length pool.taken) address → IsTaken pool address ⊎ IsFree pool address
taken_or_free pool address is =
    let k : ℕ = address / node_size - 1 in
    let at : address ≡ address_of k = omega (arith, is.aligned, is.from) in
    let within : k < length pool.taken = omega (arith, is.to, at) in
    let stands = slice_get-get_or pool.taken k false within in
    elim (cases_Bool (get_or pool.taken k false)) [
      | inl on ↦ inl (k, at, stands ∙ ap Some on)
      | inr off ↦ inr (k, at, stands ∙ ap Some off)
    ]

-- Counts

pub free_of_all : (nodes : ℕ) → free_of (all_free nodes) ≡ nodes
free_of_all nodes = sum_by-replicate one_if_free nodes false ∙ omega arith

-- no node of a pool of free ones is taken
pub none_taken : (nodes address : ℕ) → ¬ IsTaken (all_free nodes) address
none_taken nodes address taken =
    let within = slice_get_within (replicate nodes false) taken.0 true taken.2 in
    false≢true (sym (get_or-replicate nodes taken.0 false true (omega (arith, length-replicate nodes false, within))) ∙ get_or_from_slice_get (replicate nodes false) taken.0 true true taken.2)

pub free_at_most : (pool : Pool) → free_of pool ≤ length pool.taken
free_at_most pool = count_by-le-length not pool.taken

pub some_free : (pool : Pool) (address : ℕ) → IsFree pool address → 0 < free_of pool
some_free pool address free = omega (arith, count_taken pool.taken free.0 free.2)

-- where some node is free, one is taken
pub takes_one : (old new : Pool) (result : Option ℕ) → 0 < free_of old → MatchOption result (IsUsedUp old × (new ≡ old)) (λ address. Takes old address new)
    → (address : ℕ) × (result ≡ Some address) × Takes old address new
takes_one old new None some case = absurd (omega (arith, some, case.0))
takes_one old new (Some address) some case = (address, refl, case)

-- and none where none is free
pub takes_none : (old new : Pool) (result : Option ℕ) → free_of old ≡ 0 → MatchOption result (IsUsedUp old × (new ≡ old)) (λ address. Takes old address new)
    → (result ≡ None) × (new ≡ old)
takes_none old new None none case = (refl, case.1)
takes_none old new (Some address) none case = absurd (omega (arith, none, some_free old address (case.k, case.at, case.was_free)))

-- Calls

-- where one mark is written, each other is as before
other_marks : (old new : List Bool) (k : ℕ) (b : Bool) (address : ℕ) → address ≡ address_of k → new ≡ slice_set old k b
    → IsKeptBut address (record { taken = old }) (record { taken = new })
other_marks old new k b address at marks =
    let alike : (other j : ℕ) → other ≢ address → other ≡ address_of j → slice_get new j ≡ slice_get old j =
    λ other j apart is.
    ap (λ t. slice_get t j) marks ∙ slice_get-set_other old k j b (λ same. apart (is ∙ ap address_of same ∙ sym at)) in
    record {
      taken = λ other apart. (
        λ was. (was.0, was.1, alike other was.0 apart was.1 ∙ was.2),
        λ is. (is.0, is.1, sym (alike other is.0 apart is.1) ∙ is.2),
      );
      free = λ other apart. (
        λ was. (was.0, was.1, alike other was.0 apart was.1 ∙ was.2),
        λ is. (is.0, is.1, sym (alike other is.0 apart is.1) ∙ is.2),
      );
    }

-- after `take`
pub takes : (old new : Pool) (address : ℕ) → Takes old address new → HasTaken old address new
takes old new address call =
    let within = slice_get_within old.taken call.k false call.was_free in
    record {
      before = (call.k, call.at, call.was_free);
      after = (call.k, call.at, ap (λ t. slice_get t call.k) call.marks ∙ slice_get-set_same old.taken call.k true within);
      others = other_marks old.taken new.taken call.k true address call.at call.marks;
      one_less = ap (λ (t : List Bool). free_of (record { taken = t }) + 1) call.marks ∙ count_taken old.taken call.k call.was_free;
      as_many = ap length call.marks ∙ length-set old.taken call.k true;
    }

-- after `give_back`
pub gives_back : (old new : Pool) (address : ℕ) → GivesBack old address new → HasGivenBack old address new
gives_back old new address call =
    let within = slice_get_within old.taken call.k true call.was_taken in
    record {
      before = (call.k, call.at, call.was_taken);
      after = (call.k, call.at, ap (λ t. slice_get t call.k) call.marks ∙ slice_get-set_same old.taken call.k false within);
      others = other_marks old.taken new.taken call.k false address call.at call.marks;
      one_more = ap (λ (t : List Bool). free_of (record { taken = t })) call.marks ∙ count_given old.taken call.k call.was_taken;
      as_many = ap length call.marks ∙ length-set old.taken call.k false;
    }
