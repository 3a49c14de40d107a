-- The places that blocks are staged for: they rise strictly, and so many of them can be of the table and the map.
use Rattle.std.proofs.Common.{◌≡◌, inl, inr, ℕ, zero, suc, ◌+◌, ◌-◌, ◌<◌, ◌≤◌, Bool, true, false, not, ◌&&◌, cond, T, List, [], ◌∷◌, map, length, slice_get, Option, None, Some, IsSome, is_some, refl, sym, ap, ◌∙◌, subst, arith}
use Rattle.std.specs.declared.cmp.Ordering.{Ordering}
use Rattle.std.specs.declared.cmp.Ordering.TheVariants.{Less, Equal, Greater}
use Rattle.std.specs.Cmp.{nat_cmp_total, ranked, tied_itself}
use Rattle.std.specs.FinMap.{empty, entries, entries-insert, entries_sorted, find, get, get-entries, insert, is_sorted, len, len-empty, len-entries, nat_cmp-IsAntisymmetric, put, remove, same_map}
use Rattle.std.specs.FinMap.Entries.{below_all, by_order}
use Rattle.std.specs.List.{count_by}
use Rattle.std.specs.Option.{option_map_or}
use Rattle.std.specs.Ordering.{eq_by_cmp, is_eq, is_lt, nat_cmp}
use Rattle.std.proofs.lemmas.Bool.{cases_Bool, cases_eq}
use Rattle.std.proofs.lemmas.List.Sums.{sum_by-cons}
use Rattle.std.proofs.lemmas.Option.{none-some, same_Some}
use Rattle.nesc_base.specs.declared.block.Block.{Block}
use Rattle.nesc_base.proofs.Maps.{get-insert_other, get-insert_same, get-remove_other, get-remove_same}
use Rattle.host_journal.specs.Staged.{Staged, targets_of}

abbrev keys_in : List (ℕ × Block) → List ℕ
keys_in es = map (λ e. e.0) es

pub front : (a b : Bool) → T (a && b) → T a
front true b p = tt
front false b p = p

pub back : (a b : Bool) → T (a && b) → T b
back true b p = p
back false b p = absurd p

pub less : (order : Ordering) → T (is_lt order) → order ≡ Less
less Less is = refl
less Equal is = absurd is
less Greater is = absurd is

below : (k j : ℕ) → T (is_lt (nat_cmp k j)) → k < j
below k j is = ranked k j Less (sym (less (nat_cmp k j) is))

-- Rising

-- a key below all others is below each of them
below_each : (k : ℕ) (es : List (ℕ × Block)) → T (below_all nat_cmp k es) → (j b : ℕ) → slice_get (keys_in es) j ≡ Some b → k < b
below_each k [] all j b at = absurd (none-some b at)
below_each k (e ∷ es) all zero b at = let same : e.0 ≡ b = same_Some e.0 b at in subst (λ n. k < n) same (below k e.0 (front _ _ all))
below_each k (e ∷ es) all (suc j) b at = below_each k es (back _ _ all) j b at

rise : (es : List (ℕ × Block)) → T (is_sorted nat_cmp es) → (i j a b : ℕ) → i < j → slice_get (keys_in es) i ≡ Some a → slice_get (keys_in es) j ≡ Some b → a < b
rise [] sorted i j a b before at_i at_j = absurd (none-some a at_i)
rise (e ∷ es) sorted zero zero a b before at_i at_j = absurd (omega arith)
rise (e ∷ es) sorted zero (suc j) a b before at_i at_j = let same : e.0 ≡ a = same_Some e.0 a at_i in subst (λ n. n < b) same (below_each e.0 es (front _ _ sorted) j b at_j)
rise (e ∷ es) sorted (suc i) zero a b before at_i at_j = absurd (omega arith)
rise (e ∷ es) sorted (suc i) (suc j) a b before at_i at_j = rise es (back _ _ sorted) i j a b (omega (arith, before)) at_i at_j

pub targets_rise : (staged : Staged) (i j a b : ℕ) → i < j → slice_get (targets_of staged) i ≡ Some a → slice_get (targets_of staged) j ≡ Some b → a < b
targets_rise staged = rise (entries staged) (entries_sorted staged)

-- a block is staged for each of them
there : (es : List (ℕ × Block)) (i at : ℕ) → slice_get (keys_in es) i ≡ Some at → IsSome (find nat_cmp at es)
there [] i at is = absurd (none-some at is)
there (e ∷ es) zero at is =
    let same : e.0 ≡ at = same_Some e.0 at is in
    subst (λ n. IsSome (cond (eq_by_cmp nat_cmp n e.0) (Some e.1) (find nat_cmp n es))) same (ap (λ order. is_some (cond (is_eq order) (Some e.1) (find nat_cmp e.0 es))) (tied_itself nat_cmp_total e.0))
there (e ∷ es) (suc i) at is = either (eq_by_cmp nat_cmp at e.0) e.1 (find nat_cmp at es) (there es i at is)
  where
    either : (b : Bool) (block : Block) (rest : Option Block) → IsSome rest → IsSome (cond b (Some block) rest)
    either true block rest some = refl
    either false block rest some = some

pub staged_there : (staged : Staged) (i at : ℕ) → slice_get (targets_of staged) i ≡ Some at → IsSome (get staged at)
staged_there staged i at is = subst IsSome (sym (get-entries staged at)) (there (entries staged) i at is)

-- How many

counts : (p : ℕ → Bool) (k : ℕ) (ks : List ℕ) → count_by p (k ∷ ks) ≡ cond (p k) 1 0 + count_by p ks
counts p k ks = sum_by-cons (λ x. cond (p x) 1 0) k ks

-- of keys that rise from one number on no more are below another than there are numbers between
few_between : (p : ℕ → Bool) (high : ℕ) → ((k : ℕ) → p k ≡ true → k < high) → (low : ℕ) (es : List (ℕ × Block)) → T (is_sorted nat_cmp es)
    → ((i at : ℕ) → slice_get (keys_in es) i ≡ Some at → low ≤ at) → count_by p (keys_in es) ≤ high - low
few_between p high under low [] sorted from = omega arith
few_between p high under low (e ∷ es) sorted from =
    let rest : count_by p (keys_in es) ≤ high - (e.0 + 1) = few_between p high under (e.0 + 1) es (back _ _ sorted) (λ i at is. let above = below_each e.0 es (front _ _ sorted) i at is in omega (arith, above)) in
    let here : low ≤ e.0 = from 0 e.0 refl in
    elim (cases_Bool (p e.0)) [
      | inl is ↦ let one : cond (p e.0) 1 0 ≡ 1 = ap {A = Bool} {B = ℕ} (λ b. cond b 1 0) is in omega (arith, counts p e.0 (keys_in es), rest, here, one, under e.0 is)
      | inr not ↦ let none : cond (p e.0) 1 0 ≡ 0 = ap {A = Bool} {B = ℕ} (λ b. cond b 1 0) not in omega (arith, counts p e.0 (keys_in es), rest, here, none)
    ]

pub few_targets : (p : ℕ → Bool) (low high : ℕ) → ((k : ℕ) → p k ≡ true → k < high) → (staged : Staged) → ((at : ℕ) → IsSome (get staged at) → low ≤ at) → count_by p (targets_of staged) ≤ high - low
few_targets p low high under staged from =
    few_between p high under low (entries staged) (entries_sorted staged) (λ i at is. from at (staged_there staged i at is))

-- those that pass and those that don't are all
both_kinds : (p : ℕ → Bool) (ks : List ℕ) → count_by p ks + count_by (λ k. not (p k)) ks ≡ length ks
both_kinds p [] = refl
both_kinds p (k ∷ ks) =
    let rest = both_kinds p ks in
    let one : cond (p k) 1 0 + cond (not (p k)) 1 0 ≡ 1 = elim (p k) as (λ b. cond b 1 0 + cond (not b) 1 0 ≡ 1) [ true ↦ refl | false ↦ refl ] in
    omega (arith, counts p k ks, counts (λ x. not (p x)) k ks, rest, one)

pub all_targets : (p : ℕ → Bool) (staged : Staged) → count_by p (targets_of staged) + count_by (λ k. not (p k)) (targets_of staged) ≡ len staged
all_targets p staged = both_kinds p (targets_of staged) ∙ length_keys (entries staged) ∙ sym (len-entries staged)
  where
    length_keys : (es : List (ℕ × Block)) → length (keys_in es) ≡ length es
    length_keys [] = refl
    length_keys (e ∷ es) = ap suc (length_keys es)

-- one that is put is one more at most
more_put : (p : ℕ → Bool) (k : ℕ) (block : Block) (es : List (ℕ × Block)) → count_by p (keys_in (put nat_cmp k block es)) ≤ count_by p (keys_in es) + cond (p k) 1 0
more_put p k block [] = omega (arith, counts p k [])
more_put p k block (e ∷ es) = elim (nat_cmp k e.0) as (λ order. count_by p (keys_in (by_order order ((k, block) ∷ e ∷ es) ((e.0, block) ∷ es) (e ∷ put nat_cmp k block es))) ≤ count_by p (keys_in (e ∷ es)) + cond (p k) 1 0) [
  | Less ↦ omega (arith, counts p k (keys_in (e ∷ es)))
  | Equal ↦ omega arith
  | Greater ↦ omega (arith, counts p e.0 (keys_in es), counts p e.0 (keys_in (put nat_cmp k block es)), more_put p k block es)
]

pub count-insert : (p : ℕ → Bool) (staged : Staged) (at : ℕ) (block : Block) → count_by p (targets_of (insert staged at block)) ≤ count_by p (targets_of staged) + cond (p at) 1 0
count-insert p staged at block =
    let same : targets_of (insert staged at block) ≡ keys_in (put nat_cmp at block (entries staged)) = ap (λ (es : List (ℕ × Block)). keys_in es) (entries-insert nat_cmp_total staged at block) in
    omega (arith, more_put p at block (entries staged), ap (count_by p) same)

-- and never one less
no_less_put : (p : ℕ → Bool) (k : ℕ) (block : Block) (es : List (ℕ × Block)) → count_by p (keys_in es) ≤ count_by p (keys_in (put nat_cmp k block es))
no_less_put p k block [] = omega arith
no_less_put p k block (e ∷ es) = elim (nat_cmp k e.0) as (λ order. count_by p (keys_in (e ∷ es)) ≤ count_by p (keys_in (by_order order ((k, block) ∷ e ∷ es) ((e.0, block) ∷ es) (e ∷ put nat_cmp k block es)))) [
  | Less ↦ omega (arith, counts p k (keys_in (e ∷ es)))
  | Equal ↦ omega arith
  | Greater ↦ omega (arith, counts p e.0 (keys_in es), counts p e.0 (keys_in (put nat_cmp k block es)), no_less_put p k block es)
]

no_less-insert : (p : ℕ → Bool) (staged : Staged) (at : ℕ) (block : Block) → count_by p (targets_of staged) ≤ count_by p (targets_of (insert staged at block))
no_less-insert p staged at block =
    let same : targets_of (insert staged at block) ≡ keys_in (put nat_cmp at block (entries staged)) = ap (λ (es : List (ℕ × Block)). keys_in es) (entries-insert nat_cmp_total staged at block) in
    omega (arith, no_less_put p at block (entries staged), ap (count_by p) same)

-- what is removed was put in what is left, or there was nothing
put_back : (staged : Staged) (at : ℕ) (stood : Option Block) → get staged at ≡ stood → option_map_or (λ (block : Block). insert (remove staged at) at block) stood (remove staged at) ≡ staged
put_back staged at None none = same_map nat_cmp_total nat_cmp-IsAntisymmetric (remove staged at) staged (λ q. elim (cases_eq q at) [
  | inl same ↦ ap (get (remove staged at)) same ∙ get-remove_same staged at ∙ sym none ∙ sym (ap (get staged) same)
  | inr apart ↦ get-remove_other staged at q apart
])
put_back staged at (Some block) some = same_map nat_cmp_total nat_cmp-IsAntisymmetric (insert (remove staged at) at block) staged (λ q. elim (cases_eq q at) [
  | inl same ↦ ap (get (insert (remove staged at) at block)) same ∙ get-insert_same (remove staged at) at block ∙ sym some ∙ sym (ap (get staged) same)
  | inr apart ↦ get-insert_other (remove staged at) at block q apart ∙ get-remove_other staged at q apart
])

-- so those that are left are no more
pub count-remove : (p : ℕ → Bool) (staged : Staged) (at : ℕ) → count_by p (targets_of (remove staged at)) ≤ count_by p (targets_of staged)
count-remove p staged at = from (get staged at) (put_back staged at (get staged at) refl)
  where
    from : (stood : Option Block) → option_map_or (λ (block : Block). insert (remove staged at) at block) stood (remove staged at) ≡ staged → count_by p (targets_of (remove staged at)) ≤ count_by p (targets_of staged)
    from None same = omega (arith, ap (λ (s : Staged). count_by p (targets_of s)) same)
    from (Some block) same = omega (arith, ap (λ (s : Staged). count_by p (targets_of s)) same, no_less-insert p (remove staged at) at block)

pub count-empty : (p : ℕ → Bool) → count_by p (targets_of (empty {X = Block} {R = nat_cmp})) ≡ 0
count-empty p = omega (arith, all_targets p empty, len-empty nat_cmp Block)

pub length-targets : (staged : Staged) → length (targets_of staged) ≡ len staged
length-targets staged = sym (both_kinds (λ k. true) (targets_of staged)) ∙ all_targets (λ k. true) staged
