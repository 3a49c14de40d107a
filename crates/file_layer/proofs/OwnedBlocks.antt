-- The blocks that the owners of a list own, and how many of them are those of each file.
use Rattle.std.proofs.Common.{◌≡◌, ◌<◌, length, ℕ, suc, ◌+◌, Bool, true, false, ◌==◌, ◌&&◌, ◌||◌, cond, T, List, [], ◌∷◌, map, Option, Some, None, inl, inr, slice_get, refl, sym, ap, ◌∙◌, arith}
use Rattle.std.specs.Prelude.{IsSome, is_none, is_some}
use Rattle.std.specs.Cmp.{nat_cmp_total, ranked}
use Rattle.std.specs.declared.cmp.Ordering.TheVariants.{Less}
use Rattle.std.specs.FinMap.{FinMap, empty, find, get, get-empty, insert, is_sorted, len, len-empty, len-insert, nat_cmp-IsAntisymmetric, remove, same_map}
use Rattle.std.specs.FinMap.Entries.{below_all}
use Rattle.std.specs.List.{count_by, list_any, sum_by}
use Rattle.std.specs.Ordering.{is_eq, nat_cmp}
use Rattle.std.proofs.lemmas.Bool.{cases_Bool, cases_eq, false≢true}
use Rattle.std.proofs.lemmas.Bool.Decides.{Decides-eqb}
use Rattle.std.proofs.lemmas.List.Sums.{sum_by-cons}
use Rattle.std.proofs.lemmas.Map.Keys.{any_passes_from_place}
use Rattle.std.proofs.lemmas.Option.{none-some}
use Rattle.nesc_base.specs.Places.{Owner}
use Rattle.nesc_base.proofs.Maps.{get-insert_other, get-insert_same, get-remove_other, get-remove_same, tied_other, tied_same}
use Rattle.block_map.specs.Map.{count_free, count_held, is_of}
use Rattle.host_journal.proofs.Keys.{back, front, less}
use Rattle.image_layout.proofs.Bodies.{IsAt, is_at_or_not, one_at}
use Rattle.image_layout.proofs.OpenedFiles.{some_there}
use Rattle.file_layer.specs.Layer.{AreApartOwners, is_owned_by}

-- An owner

pub is_owned_by-at : (owner : Owner) (n v : ℕ) → IsAt owner n v → is_owned_by n v (Some owner) ≡ true
is_owned_by-at owner n v at = ap (λ b. b && (owner.1 == v)) ((Decides-eqb owner.0.0 n).1 at.0) ∙ (Decides-eqb owner.1 v).1 at.1

is_owned_by-other : (owner : Owner) (n v : ℕ) → ¬ IsAt owner n v → is_owned_by n v (Some owner) ≡ false
is_owned_by-other owner n v other = elim (cases_eq owner.0.0 n) [
  | inl file ↦ elim (cases_eq owner.1 v) [
    | inl place ↦ absurd (other (file, place))
    | inr apart ↦
        let no : (owner.1 == v) ≡ false = grind arith in
        ap (λ b. b && (owner.1 == v)) ((Decides-eqb owner.0.0 n).1 file) ∙ no
  ]
  | inr apart ↦ let no : (owner.0.0 == n) ≡ false = grind arith in ap (λ b. b && (owner.1 == v)) no
]

-- who owns the block stands in the list
pub owned_there : (n v : ℕ) (owners : List (Option Owner)) → list_any (is_owned_by n v) owners ≡ true
    → (k : ℕ) × (owner : Owner) × (slice_get owners k ≡ Some (Some owner)) × IsAt owner n v
owned_there n v [] is = absurd (false≢true is)
owned_there n v (None ∷ owners) is = let rest = owned_there n v owners is in (suc rest.0, rest.1, rest.2, rest.3)
owned_there n v (Some o ∷ owners) is = elim (is_at_or_not o n v) [
  | inl at ↦ (0, o, refl, at)
  | inr other ↦
      let rest = owned_there n v owners (ap (λ b. b || list_any (is_owned_by n v) owners) (sym (is_owned_by-other o n v other)) ∙ is) in
      (suc rest.0, rest.1, rest.2, rest.3)
]

-- and who stands there owns it
pub is_owned_if_there : (n v : ℕ) (owners : List (Option Owner)) (k : ℕ) (owner : Owner) → slice_get owners k ≡ Some (Some owner) → IsAt owner n v
    → list_any (is_owned_by n v) owners ≡ true
is_owned_if_there n v owners k owner there at = any_passes_from_place (is_owned_by n v) owners k (Some owner) there (is_owned_by-at owner n v at)

-- each that stands behind the first stands once
apart_behind : (x : Option Owner) (owners : List (Option Owner)) → AreApartOwners (x ∷ owners) → AreApartOwners owners
apart_behind x owners apart j k owner one other = let same : suc j ≡ suc k = apart (suc j) (suc k) owner one other in omega arith

-- and is not the first
not_behind : (o : Owner) (owners : List (Option Owner)) (n v : ℕ) → AreApartOwners (Some o ∷ owners) → IsAt o n v → list_any (is_owned_by n v) owners ≡ false
not_behind o owners n v apart at = elim (cases_Bool (list_any (is_owned_by n v) owners)) [
  | inl is ↦
      let there = owned_there n v owners is in
      let again : Some (Some there.1) ≡ Some (Some o) = ap (λ w. Some (Some w)) (one_at there.1 o n v there.3 at) in
      let same : 0 ≡ suc there.0 = apart 0 (suc there.0) o refl (there.2 ∙ again) in
      absurd (omega arith)
  | inr none ↦ none
]

-- Those of one file

counts : {X : Type 0} (p : X → Bool) (x : X) (xs : List X) → count_by p (x ∷ xs) ≡ cond (p x) 1 0 + count_by p xs
counts p x xs = sum_by-cons (λ y. cond (p y) 1 0) x xs

-- what does not have a value has nothing
pub nothing : {X : Type 0} (o : Option X) → is_some o ≡ false → o ≡ None
nothing None not_there = refl
nothing (Some x) not_there = absurd (false≢true (sym not_there))

-- a map without a key has one less
len-without : {X : Type 0} (m : FinMap nat_cmp X) (k : ℕ) → IsSome (get m k) → len m ≡ len (remove m k) + 1
len-without m k some =
    let there = some_there (get m k) some in
    let back : insert (remove m k) k there.0 ≡ m = same_map nat_cmp_total nat_cmp-IsAntisymmetric (insert (remove m k) k there.0) m (λ q. elim (cases_eq q k) [
      | inl same ↦ ap (get (insert (remove m k) k there.0)) same ∙ get-insert_same (remove m k) k there.0 ∙ sym there.1 ∙ sym (ap (get m) same)
      | inr apart ↦ get-insert_other (remove m k) k there.0 q apart ∙ get-remove_other m k q apart
    ]) in
    sym (ap len back) ∙ len-insert nat_cmp_total (remove m k) k there.0 ∙ ap (λ o. cond (is_some o) (len (remove m k)) (len (remove m k) + 1)) (get-remove_same m k)

-- a map that has the blocks of file n that are owned has so many keys
pub len-owned : {X : Type 0} (n : ℕ) (owners : List (Option Owner)) (m : FinMap nat_cmp X) → AreApartOwners owners
    → ((v : ℕ) → is_some (get m v) ≡ list_any (is_owned_by n v) owners) → len m ≡ count_held n owners
len-owned {X} n [] m apart alike =
    ap len (same_map nat_cmp_total nat_cmp-IsAntisymmetric m empty (λ v. nothing (get m v) (alike v) ∙ sym (get-empty {X = X} nat_cmp v))) ∙ len-empty nat_cmp X
len-owned n (None ∷ owners) m apart alike = omega (arith, len-owned n owners m (apart_behind None owners apart) alike, counts (is_of n) None owners)
len-owned n (Some o ∷ owners) m apart alike = elim (cases_eq o.0.0 n) [
  | inl file ↦
      let some : IsSome (get m o.1) = alike o.1 ∙ ap (λ b. b || list_any (is_owned_by n o.1) owners) (is_owned_by-at o n o.1 (file, refl)) in
      let rest : len (remove m o.1) ≡ count_held n owners = len-owned n owners (remove m o.1) (apart_behind (Some o) owners apart) (λ v. elim (cases_eq v o.1) [
        | inl same ↦ ap is_some (ap (get (remove m o.1)) same ∙ get-remove_same m o.1) ∙ sym (not_behind o owners n v apart (file, sym same))
        | inr other ↦
            ap is_some (get-remove_other m o.1 v other) ∙ alike v
            ∙ ap (λ b. b || list_any (is_owned_by n v) owners) (is_owned_by-other o n v (λ at. other (sym at.1)))
      ]) in
      let one : count_held n (Some o ∷ owners) ≡ 1 + count_held n owners = counts (is_of n) (Some o) owners ∙ ap (λ b. cond b 1 0 + count_held n owners) ((Decides-eqb o.0.0 n).1 file) in
      omega (arith, len-without m o.1 some, rest, one)
  | inr other ↦
      let no : (o.0.0 == n) ≡ false = grind arith in
      let rest : len m ≡ count_held n owners = len-owned n owners m (apart_behind (Some o) owners apart) (λ v. alike v
      ∙ ap (λ b. b || list_any (is_owned_by n v) owners) (is_owned_by-other o n v (λ at. other at.0))) in
      let none : count_held n (Some o ∷ owners) ≡ 0 + count_held n owners = counts (is_of n) (Some o) owners ∙ ap (λ b. cond b 1 0 + count_held n owners) no in
      omega (arith, rest, none)
]

-- Those of all files

-- a key that is below all others is not found among them
missed : {X : Type 0} (k : ℕ) (es : List (ℕ × X)) → T (below_all nat_cmp k es) → find nat_cmp k es ≡ None
missed k [] below = refl
missed k (e ∷ es) below = ap (λ order. cond (is_eq order) (Some e.1) (find nat_cmp k es)) (less (nat_cmp k e.0) (front _ _ below)) ∙ missed k es (back _ _ below)

-- what is found behind the first is found
found_on : {X : Type 0} (e : ℕ × X) (es : List (ℕ × X)) (k : ℕ) (x : X) → T (below_all nat_cmp e.0 es) → find nat_cmp k es ≡ Some x → find nat_cmp k (e ∷ es) ≡ Some x
found_on e es k x below found = elim (cases_eq k e.0) [
  | inl same ↦ absurd (none-some x (sym (missed e.0 es below) ∙ ap (λ q. find nat_cmp q es) (sym same) ∙ found))
  | inr apart ↦ ap (λ b. cond b (Some e.1) (find nat_cmp k es)) (tied_other k e.0 apart) ∙ found
]

-- sums over values are those over their keys where the terms are alike
pub sums_alike : {X : Type 0} (f : X → ℕ) (g : ℕ → ℕ) (es : List (ℕ × X)) → T (is_sorted nat_cmp es) → ((k : ℕ) (x : X) → find nat_cmp k es ≡ Some x → f x ≡ g k)
    → sum_by f (map (λ e. e.1) es) ≡ sum_by (λ e. g e.0) es
sums_alike {X} f g [] sorted alike = refl
sums_alike {X} f g (e ∷ es) sorted alike =
    let below : T (below_all nat_cmp e.0 es) = front _ _ sorted in
    let later : T (is_sorted nat_cmp es) = back _ _ sorted in
    let first : f e.1 ≡ g e.0 = alike e.0 e.1 (ap (λ b. cond b (Some e.1) (find nat_cmp e.0 es)) (tied_same e.0)) in
    let rest : sum_by f (map (λ (e : ℕ × X). e.1) es) ≡ sum_by (λ (e : ℕ × X). g e.0) es = sums_alike f g es later (λ k x found. alike k x (found_on e es k x below found)) in
    omega (arith, sum_by-cons f e.1 (map (λ (e : ℕ × X). e.1) es), sum_by-cons (λ (e : ℕ × X). g e.0) e es, first, rest)

-- how many of the entries have this key
abbrev with_key : {X : Type 0} → ℕ → List (ℕ × X) → ℕ
with_key k es = count_by (λ e. k == e.0) es

none_with_key : {X : Type 0} (k : ℕ) (es : List (ℕ × X)) → T (below_all nat_cmp k es) → with_key k es ≡ 0
none_with_key k [] below = refl
none_with_key k (e ∷ es) below =
    let apart : k < e.0 = ranked k e.0 Less (sym (less (nat_cmp k e.0) (front _ _ below))) in
    let no : (k == e.0) ≡ false = grind arith in
    let none : with_key k (e ∷ es) ≡ 0 + with_key k es = counts (λ e. k == e.0) e es ∙ ap (λ b. cond b 1 0 + with_key k es) no in
    omega (arith, none, none_with_key k es (back _ _ below))

one_with_key : {X : Type 0} (k : ℕ) (es : List (ℕ × X)) → T (is_sorted nat_cmp es) → IsSome (find nat_cmp k es) → with_key k es ≡ 1
one_with_key {X} k [] sorted some = absurd (false≢true some)
one_with_key {X} k (e ∷ es) sorted some = elim (cases_eq k e.0) [
  | inl same ↦
      let none : with_key k es ≡ 0 = ap (λ q. with_key q es) same ∙ none_with_key e.0 es (front _ _ sorted) in
      let yes : with_key k (e ∷ es) ≡ 1 + with_key k es = counts (λ e. k == e.0) e es ∙ ap (λ b. cond b 1 0 + with_key k es) ((Decides-eqb k e.0).1 same) in
      omega (arith, none, yes)
  | inr apart ↦
      let no : (k == e.0) ≡ false = grind arith in
      let found : IsSome (find nat_cmp k es) = sym (ap (λ b. is_some (cond b (Some e.1) (find nat_cmp k es))) (tied_other k e.0 apart)) ∙ some in
      let later : with_key k (e ∷ es) ≡ 0 + with_key k es = counts (λ e. k == e.0) e es ∙ ap (λ b. cond b 1 0 + with_key k es) no in
      omega (arith, later, one_with_key k es (back _ _ sorted) found)
]

-- the sum over files of how many of the data blocks each owns
abbrev owned_in : {X : Type 0} → List (ℕ × X) → List (Option Owner) → ℕ
owned_in es owners = sum_by (λ e. count_held e.0 owners) es

owned_in-none : {X : Type 0} (es : List (ℕ × X)) (owners : List (Option Owner)) → owned_in es (None ∷ owners) ≡ owned_in es owners
owned_in-none {X} [] owners = refl
owned_in-none {X} (e ∷ es) owners =
    omega (arith, sum_by-cons (λ (e : ℕ × X). count_held e.0 (None ∷ owners)) e es, sum_by-cons (λ (e : ℕ × X). count_held e.0 owners) e es, counts (is_of e.0) None owners, owned_in-none es owners)

owned_in-some : {X : Type 0} (es : List (ℕ × X)) (o : Owner) (owners : List (Option Owner)) → owned_in es (Some o ∷ owners) ≡ with_key o.0.0 es + owned_in es owners
owned_in-some {X} [] o owners = refl
owned_in-some {X} (e ∷ es) o owners =
    omega (arith, sum_by-cons (λ (e : ℕ × X). count_held e.0 (Some o ∷ owners)) e es, sum_by-cons (λ (e : ℕ × X). count_held e.0 owners) e es, counts (is_of e.0) (Some o) owners, counts (λ (e : ℕ × X). o.0.0 == e.0) e es, owned_in-some es o owners)

owned_in-nobody : {X : Type 0} (es : List (ℕ × X)) → owned_in es [] ≡ 0
owned_in-nobody {X} [] = refl
owned_in-nobody {X} (e ∷ es) = omega (arith, sum_by-cons (λ (e : ℕ × X). count_held e.0 []) e es, owned_in-nobody es)

-- with those that are free these are all, where each owner is one of the files
pub owned-and-free : {X : Type 0} (es : List (ℕ × X)) (owners : List (Option Owner)) → T (is_sorted nat_cmp es)
    → ((k : ℕ) (owner : Owner) → slice_get owners k ≡ Some (Some owner) → IsSome (find nat_cmp owner.0.0 es))
    → owned_in es owners + count_free owners ≡ length owners
owned-and-free es [] sorted found = omega (arith, owned_in-nobody es)
owned-and-free es (None ∷ owners) sorted found =
    omega (arith, owned_in-none es owners, counts is_none None owners, owned-and-free es owners sorted (λ k. found (suc k)))
owned-and-free es (Some o ∷ owners) sorted found =
    omega (arith, owned_in-some es o owners, one_with_key o.0.0 es sorted (found 0 o refl), counts is_none (Some o) owners, owned-and-free es owners sorted (λ k. found (suc k)))
