-- How counts change when one element is put in place of another.
use Rattle.std.proofs.Common.{◌≡◌, ℕ, zero, suc, ◌+◌, ◌*◌, ◌<◌, Bool, false, cond, List, [], ◌∷◌, Some, map, replicate, slice_get, refl, sym, ap, ◌∙◌, subst, arith}
use Rattle.std.specs.Prelude.{slice_set}
use Rattle.std.specs.List.{count_by}
use Rattle.std.proofs.lemmas.List.{get_or-replicate, length-replicate}
use Rattle.std.proofs.lemmas.List.Sums.{sum_by-cons, sum_by-set}
use Rattle.std.proofs.lemmas.List.Folds.{sum_by-replicate}
use Rattle.std.proofs.lemmas.Option.{get_or_from_slice_get, slice_get-get_or, slice_get_within}

abbrev pub one_if : Bool → ℕ
one_if b = cond b 1 0

-- a count gains the new element and loses the old one
pub count_by-set : {X : Type 0} (p : X → Bool) (xs : List X) (k : ℕ) (old new : X) → slice_get xs k ≡ Some old
    → count_by p (slice_set xs k new) + one_if (p old) ≡ count_by p xs + one_if (p new)
count_by-set p xs k old new is =
    subst (λ x. count_by p (slice_set xs k new) + one_if (p x) ≡ count_by p xs + one_if (p new)) (get_or_from_slice_get xs k old old is)
    (sum_by-set (λ x. one_if (p x)) xs k new old (slice_get_within xs k old is))

-- where no element passes, none is counted
pub count_by_none : {X : Type 0} (p : X → Bool) (xs : List X) → ((k : ℕ) (x : X) → slice_get xs k ≡ Some x → p x ≡ false) → count_by p xs ≡ 0
count_by_none p [] fails = refl
count_by_none p (x ∷ xs) fails =
    let first : one_if (p x) ≡ 0 = ap one_if (fails zero x refl) in
    omega (arith, sum_by-cons (λ y. one_if (p y)) x xs, first, count_by_none p xs (λ k y is. fails (suc k) y is))

-- Lists of one element over and over

pub slice_get-replicate : {X : Type 0} (n k : ℕ) (x : X) → k < n → slice_get (replicate n x) k ≡ Some x
slice_get-replicate n k x within =
    slice_get-get_or (replicate n x) k x (omega (arith, length-replicate n x, within)) ∙ ap Some (get_or-replicate n k x x within)

pub replicate_is : {X : Type 0} (n k : ℕ) (x y : X) → slice_get (replicate n x) k ≡ Some y → y ≡ x
replicate_is n k x y is =
    sym (get_or_from_slice_get (replicate n x) k y x is) ∙ get_or-replicate n k x x (omega (arith, length-replicate n x, slice_get_within (replicate n x) k y is))

pub map-replicate : {X Y : Type 0} (f : X → Y) (n : ℕ) (x : X) → map f (replicate n x) ≡ replicate n (f x)
map-replicate f zero x = refl
map-replicate f (suc n) x = ap (λ ys. f x ∷ ys) (map-replicate f n x)

pub count_by-replicate : {X : Type 0} (p : X → Bool) (n : ℕ) (x : X) → count_by p (replicate n x) ≡ n * one_if (p x)
count_by-replicate p n x = sum_by-replicate (λ y. one_if (p y)) n x
