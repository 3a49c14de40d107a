-- How what a pool keeps stays sound.
use Rattle.std.proofs.Common.{◌≡◌, ◌≢◌, ℕ, zero, suc, ◌+◌, ◌-◌, ◌<◌, ◌≤◌, ◌^◌, ◌⊎◌, inl, inr, Bool, true, false, cond, List, [], ◌∷◌, ◌++◌, Some, length, replicate, slice_get, refl, sym, ap, ◌∙◌, subst, arith}
use Rattle.std.specs.Prelude.{not, slice_set}
use Rattle.std.specs.List.{count_by}
use Rattle.std.proofs.lemmas.Bool.{false≢true}
use Rattle.std.proofs.lemmas.List.{get_or-replicate, length-append, length-replicate, length-set}
use Rattle.std.proofs.lemmas.List.Sums.{count_by-le-length, sum_by-set}
use Rattle.std.proofs.lemmas.List.Folds.{sum_by-replicate}
use Rattle.std.proofs.lemmas.Option.{get_or_from_slice_get, same_Some, slice_get-get_or, slice_get_within}
use Rattle.nesc_base.proofs.Differing.{slice_get-set_same, slice_get-set_other}
use Rattle.host_memory.specs.Sound.{IsSound, NamesAll}

-- Counting

abbrev pub one_if_free : Bool → ℕ
one_if_free b = cond (not b) 1 0

-- one node more is free where one that was taken is made free, and the other way round
count_set : (taken : List Bool) (k : ℕ) (old new : Bool) → slice_get taken k ≡ Some old
    → count_by not (slice_set taken k new) + one_if_free old ≡ count_by not taken + one_if_free new
count_set taken k old new is =
    subst (λ x. count_by not (slice_set taken k new) + one_if_free x ≡ count_by not taken + one_if_free new) (get_or_from_slice_get taken k old old is)
    (sum_by-set one_if_free taken k new old (slice_get_within taken k old is))

pub count_taken : (taken : List Bool) (k : ℕ) → slice_get taken k ≡ Some false → count_by not (slice_set taken k true) + 1 ≡ count_by not taken
count_taken taken k is = omega (arith, count_set taken k false true is)

pub count_given : (taken : List Bool) (k : ℕ) → slice_get taken k ≡ Some true → count_by not (slice_set taken k false) ≡ count_by not taken + 1
count_given taken k is = omega (arith, count_set taken k true false is)

-- Lists

-- an element that one is put behind stays where it is
pub before_last : {X : Type 0} (xs : List X) (x : X) (j : ℕ) → j < length xs → slice_get (xs ++ x ∷ []) j ≡ slice_get xs j
before_last [] x j within = absurd (omega arith)
before_last (y ∷ ys) x zero within = refl
before_last (y ∷ ys) x (suc j) within = before_last ys x j (omega arith)

pub at_last : {X : Type 0} (xs : List X) (x : X) → slice_get (xs ++ x ∷ []) (length xs) ≡ Some x
at_last [] x = refl
at_last (y ∷ ys) x = at_last ys x

-- an element is one of those before or the last
either : {X : Type 0} (xs : List X) (x y : X) (j : ℕ) → slice_get (xs ++ x ∷ []) j ≡ Some y → (slice_get xs j ≡ Some y) ⊎ ((j ≡ length xs) × (x ≡ y))
either [] x y zero is = inr (refl, same_Some x y is)
either [] x y (suc j) is = absurd (omega (arith, slice_get_within (x ∷ []) (suc j) y is))
either (z ∷ zs) x y zero is = inl is
either (z ∷ zs) x y (suc j) is =
    elim (either zs x y j is) [ inl before ↦ inl before | inr last ↦ inr (ap suc last.0, last.1) ]

-- Sound

-- each node is free
pub sound_all : (taken : List Bool) (free : List ℕ) (room nodes : ℕ) → taken ≡ replicate nodes false → NamesAll nodes free → nodes < 2 ^ 16 → nodes ≤ room → IsSound taken free room
sound_all taken free room nodes none names few enough =
    let many : length taken ≡ nodes = ap length none ∙ length-replicate nodes false in
    let within : (j k : ℕ) → slice_get free j ≡ Some k → j < nodes = λ j k is. omega (arith, slice_get_within free j k is, names.as_many) in
    let name : (j k : ℕ) → slice_get free j ≡ Some k → nodes - 1 - j ≡ k =
    λ j k is. same_Some (nodes - 1 - j) k (sym (names.each j (within j k is)) ∙ is) in
    record {
      fits = omega (arith, many);
      free_only = λ j k is.
          let below : k < nodes = omega (arith, within j k is, name j k is) in
          ap (λ t. slice_get t k) none
          ∙ slice_get-get_or (replicate nodes false) k false (omega (arith, length-replicate nodes false, below))
          ∙ ap Some (get_or-replicate nodes k false false below);
      once = λ i j k first second. omega (arith, within i k first, within j k second, name i k first, name j k second);
      each = names.as_many ∙ sym (ap (count_by not) none ∙ sum_by-replicate one_if_free nodes false ∙ omega arith);
      enough = omega (arith, many);
    }

-- the last of the names is taken off
pub last_is_free : {taken : List Bool} {free : List ℕ} {room : ℕ} → IsSound taken free room → (rest : List ℕ) (k : ℕ) → free ≡ rest ++ k ∷ [] → slice_get taken k ≡ Some false
last_is_free sound rest k is = sound.free_only (length rest) k (ap (λ xs. slice_get xs (length rest)) is ∙ at_last rest k)

pub sound_taken : {taken : List Bool} {free : List ℕ} {room : ℕ} → IsSound taken free room → (rest : List ℕ) (k : ℕ) → free ≡ rest ++ k ∷ [] → IsSound (slice_set taken k true) rest room
sound_taken {taken} {free} {room} sound rest k is =
    let stood : (j m : ℕ) → slice_get rest j ≡ Some m → slice_get free j ≡ Some m =
    λ j m at. ap (λ xs. slice_get xs j) is ∙ before_last rest k j (slice_get_within rest j m at) ∙ at in
    let last : slice_get free (length rest) ≡ Some k = ap (λ xs. slice_get xs (length rest)) is ∙ at_last rest k in
    let many : length free ≡ length rest + 1 = ap length is ∙ length-append rest (k ∷ []) in
    record {
      fits = omega (arith, sound.fits, length-set taken k true);
      free_only = λ j m at.
          let apart : m ≢ k = λ same.
          omega (arith, slice_get_within rest j m at, sound.once j (length rest) k (stood j m at ∙ ap Some same) last) in
          slice_get-set_other taken k m true apart ∙ sound.free_only j m (stood j m at);
      once = λ i j m first second. sound.once i j m (stood i m first) (stood j m second);
      each = omega (arith, sound.each, many, count_taken taken k (sound.free_only (length rest) k last));
      enough = omega (arith, sound.enough, length-set taken k true);
    }

-- one more name is put behind the others
pub sound_given : {taken : List Bool} {free : List ℕ} {room : ℕ} → IsSound taken free room → (k more : ℕ) → slice_get taken k ≡ Some true → room ≤ more → IsSound (slice_set taken k false) (free ++ k ∷ []) more
sound_given {taken} {free} {room} sound k more is wider =
    let within : k < length taken = slice_get_within taken k true is in
    let new : (j : ℕ) → slice_get free j ≡ Some k → ⊥ =
    λ j at. false≢true (same_Some false true (sym (sound.free_only j k at) ∙ is)) in
    record {
      fits = omega (arith, sound.fits, length-set taken k false);
      free_only = λ j m at. elim (either free k m j at) [
        | inl before ↦
            slice_get-set_other taken k m false (λ same. new j (before ∙ ap Some same)) ∙ sound.free_only j m before
        | inr last ↦ subst (λ n. slice_get (slice_set taken k false) n ≡ Some false) last.1 (slice_get-set_same taken k false within)
      ];
      once = λ i j m first second. elim (either free k m i first) [
        | inl before ↦ elim (either free k m j second) [
          | inl other ↦ sound.once i j m before other
          | inr last ↦ absurd (new i (before ∙ ap Some (sym last.1)))
        ]
        | inr last ↦ elim (either free k m j second) [
          | inl other ↦ absurd (new j (other ∙ ap Some (sym last.1)))
          | inr too ↦ last.0 ∙ sym too.0
        ]
      ];
      each = omega (arith, sound.each, length-append free (k ∷ []), count_given taken k is);
      enough = omega (arith, sound.enough, wider, length-set taken k false);
    }

-- there is memory for the name of a node that is taken
pub room_for_one : {taken : List Bool} {free : List ℕ} {room : ℕ} → IsSound taken free room → (k : ℕ) → slice_get taken k ≡ Some true → length free < room
room_for_one {taken} {free} {room} sound k is =
    omega (arith, sound.each, sound.enough, count_given taken k is, length-set taken k false, count_by-le-length not (slice_set taken k false))
