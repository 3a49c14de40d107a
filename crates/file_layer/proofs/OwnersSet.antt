-- Owners that are set into a map that has none, one after another.
use Rattle.std.proofs.Common.{◌≡◌, ℕ, zero, suc, ◌+◌, ◌-◌, ◌<◌, ◌≤◌, inl, inr, List, [], ◌∷◌, ◌++◌, Option, Some, None, length, replicate, take, slice_get, slice_set, refl, sym, ap, ◌∙◌, arith, length-append}
use Rattle.std.proofs.lemmas.Bool.{cases_lt}
use Rattle.std.proofs.lemmas.Option.{none-some, same_Some, slice_get_within}
use Rattle.nesc_base.specs.Places.{Owner}
use Rattle.image_layout.specs.Opens.{Repeats}
use Rattle.file_layer.specs.Layer.{AreApartOwners}
use Rattle.file_layer.specs.Loading.{IsFirstTwice, padded}

abbrev pub Owners : Type 0
Owners = List (Option Owner)

-- Owners with none behind the last

pub length-padded : (n : ℕ) (owners : Owners) → length (padded n owners) ≡ n
length-padded zero owners = refl
length-padded (suc n) [] = ap suc (length-padded n [])
length-padded (suc n) (owner ∷ owners) = ap suc (length-padded n owners)

pub padded-none : (n : ℕ) → padded n [] ≡ replicate n None
padded-none zero = refl
padded-none (suc n) = ap (λ (owners : Owners). None ∷ owners) (padded-none n)

-- a data block that is free changes nothing
pub padded-free : (n : ℕ) (owners : Owners) → padded n (owners ++ None ∷ []) ≡ padded n owners
padded-free zero owners = refl
padded-free (suc n) [] = refl
padded-free (suc n) (owner ∷ owners) = ap (λ (rest : Owners). owner ∷ rest) (padded-free n owners)

-- one more owner is set behind the last
pub padded-set : (n : ℕ) (owners : Owners) (k : ℕ) (owner : Option Owner) → k ≡ length owners → k < n → slice_set (padded n owners) k owner ≡ padded n (owners ++ owner ∷ [])
padded-set zero owners k owner at within = absurd (omega (arith, within))
padded-set (suc n) [] zero owner at within = refl
padded-set (suc n) [] (suc k) owner at within = absurd (omega (arith, at))
padded-set (suc n) (first ∷ owners) zero owner at within = absurd (omega (arith, at))
padded-set (suc n) (first ∷ owners) (suc k) owner at within = ap (λ (rest : Owners). first ∷ rest) (padded-set n owners k owner (omega (arith, at)) (omega (arith, within)))

-- nothing stands behind the last
pub padded-past : (n : ℕ) (owners : Owners) (k : ℕ) → length owners ≤ k → k < n → slice_get (padded n owners) k ≡ Some None
padded-past zero owners k past within = absurd (omega (arith, within))
padded-past (suc n) [] zero past within = refl
padded-past (suc n) [] (suc k) past within = padded-past n [] k (omega (arith, past)) (omega (arith, within))
padded-past (suc n) (owner ∷ owners) zero past within = absurd (omega (arith, past))
padded-past (suc n) (owner ∷ owners) (suc k) past within = padded-past n owners k (omega (arith, past)) (omega (arith, within))

-- so what is held there is held by one of the owners
pub padded-held : (n : ℕ) (owners : Owners) (k : ℕ) (owner : Owner) → slice_get (padded n owners) k ≡ Some (Some owner) → slice_get owners k ≡ Some (Some owner)
padded-held zero owners k owner at = absurd (none-some (Some owner) at)
padded-held (suc n) [] zero owner at = absurd (none-some owner (same_Some None (Some owner) at))
padded-held (suc n) [] (suc k) owner at = padded-held n [] k owner at
padded-held (suc n) (first ∷ owners) zero owner at = at
padded-held (suc n) (first ∷ owners) (suc k) owner at = padded-held n owners k owner at

-- each of the owners stands there
pub padded-there : (n : ℕ) (owners : Owners) (k : ℕ) (owner : Option Owner) → slice_get owners k ≡ Some owner → k < n → slice_get (padded n owners) k ≡ Some owner
padded-there zero owners k owner at within = absurd (omega (arith, within))
padded-there (suc n) [] k owner at within = absurd (none-some owner at)
padded-there (suc n) (first ∷ owners) zero owner at within = at
padded-there (suc n) (first ∷ owners) (suc k) owner at within = padded-there n owners k owner at (omega (arith, within))

-- the owners are the front
pub take-padded : (n : ℕ) (owners : Owners) (k : ℕ) → length owners ≡ k → k ≤ n → take k (padded n owners) ≡ owners
take-padded zero [] zero count within = refl
take-padded zero [] (suc k) count within = absurd (omega (arith, count))
take-padded zero (owner ∷ owners) k count within = absurd (omega (arith, count, within))
take-padded (suc n) [] zero count within = refl
take-padded (suc n) [] (suc k) count within = absurd (omega (arith, count))
take-padded (suc n) (owner ∷ owners) zero count within = absurd (omega (arith, count))
take-padded (suc n) (owner ∷ owners) (suc k) count within = ap (λ (rest : Owners). owner ∷ rest) (take-padded n owners k (omega (arith, count)) (omega (arith, within)))

-- owners that are all none
all_none : (owners : Owners) → ((k : ℕ) (owner : Owner) → slice_get owners k ≡ Some (Some owner) → ⊥) → replicate (length owners) None ≡ owners
all_none [] free = refl
all_none (None ∷ owners) free = ap (λ (rest : Owners). None ∷ rest) (all_none owners (λ k owner at. free (suc k) owner at))
all_none (Some owner ∷ owners) free = absurd (free zero owner refl)

-- where all behind the first so many are none, these are all
pub padded-whole : (n : ℕ) (owners : Owners) → n ≤ length owners → ((k : ℕ) (owner : Owner) → slice_get owners k ≡ Some (Some owner) → k < n)
    → padded n owners ++ replicate (length owners - n) None ≡ owners
padded-whole zero owners within below =
    let same : length owners - 0 ≡ length owners = omega arith in
    ap (λ n. replicate n None) same ∙ all_none owners (λ k owner at. let no = below k owner at in omega (arith, no))
padded-whole (suc n) [] within below = absurd (omega (arith, within))
padded-whole (suc n) (owner ∷ owners) within below =
    let same : length (owner ∷ owners) - suc n ≡ length owners - n = omega arith in
    ap (λ m. padded (suc n) (owner ∷ owners) ++ replicate m None) same ∙
    ap (λ (rest : Owners). owner ∷ rest) (padded-whole n owners (omega (arith, within)) (λ k other at. let less = below (suc k) other at in omega (arith, less)))

-- Owners that stand twice

-- an item of the front
pub front_item : {X : Type 0} (xs ys : List X) (k : ℕ) (x : X) → slice_get xs k ≡ Some x → slice_get (xs ++ ys) k ≡ Some x
front_item [] ys k x at = absurd (none-some x at)
front_item (y ∷ xs) ys zero x at = at
front_item (y ∷ xs) ys (suc k) x at = front_item xs ys k x at

pub item_of_front : {X : Type 0} (xs ys : List X) (k : ℕ) (x : X) → k < length xs → slice_get (xs ++ ys) k ≡ Some x → slice_get xs k ≡ Some x
item_of_front [] ys k x within at = absurd (omega (arith, within))
item_of_front (y ∷ xs) ys zero x within at = at
item_of_front (y ∷ xs) ys (suc k) x within at = item_of_front xs ys k x (omega (arith, within)) at

-- the item behind it
pub item_behind : {X : Type 0} (xs ys : List X) (y : X) (k : ℕ) → k ≡ length xs → slice_get (xs ++ y ∷ ys) k ≡ Some y
item_behind [] ys y zero at = refl
item_behind [] ys y (suc k) at = absurd (omega (arith, at))
item_behind (x ∷ xs) ys y zero at = absurd (omega (arith, at))
item_behind (x ∷ xs) ys y (suc k) at = item_behind xs ys y k (omega (arith, at))

-- no data block repeats an earlier one
abbrev pub IsOnce : Owners → Type 0
IsOnce owners = (k : ℕ) (owner : Owner) → ¬ Repeats owners k owner

-- what is repeated in the front is so in the whole, and the other way round
pub repeats_more : (xs ys : Owners) (k : ℕ) (owner : Owner) → Repeats xs k owner → Repeats (xs ++ ys) k owner
repeats_more xs ys k owner repeats =
    (front_item xs ys k (Some owner) repeats.0, (repeats.1.0, repeats.1.1, front_item xs ys repeats.1.0 (Some owner) repeats.1.2))

pub repeats_less : (xs ys : Owners) (k : ℕ) (owner : Owner) → k < length xs → Repeats (xs ++ ys) k owner → Repeats xs k owner
repeats_less xs ys k owner within repeats = (
  item_of_front xs ys k (Some owner) within repeats.0,
  (repeats.1.0, repeats.1.1, item_of_front xs ys repeats.1.0 (Some owner) (omega (arith, within, repeats.1.1)) repeats.1.2),
)

-- the first owner that stands twice is the first with more behind
pub first_more : (xs ys : Owners) (owner : Owner) → IsFirstTwice xs owner → IsFirstTwice (xs ++ ys) owner
first_more xs ys owner first =
    let within : first.0 < length xs = slice_get_within xs first.0 (Some owner) first.1.0 in
    (first.0, repeats_more xs ys first.0 owner first.1, λ j earlier below repeats. first.2 j earlier below (repeats_less xs ys j earlier (omega (arith, below, within)) repeats))

-- an owner that is one of the front already is the first that stands twice
pub first_here : (xs ys : Owners) (k : ℕ) (owner : Owner) → IsOnce xs → slice_get xs k ≡ Some (Some owner) → IsFirstTwice (xs ++ Some owner ∷ ys) owner
first_here xs ys k owner once at = (
  length xs,
  (item_behind xs ys (Some owner) (length xs) refl, (k, slice_get_within xs k (Some owner) at, front_item xs (Some owner ∷ ys) k (Some owner) at)),
  λ j earlier below repeats. once j earlier (repeats_less xs (Some owner ∷ ys) j earlier below repeats),
)

-- one more stands once, where it is none or stands nowhere before
pub once_more : (xs : Owners) (last : Option Owner) → IsOnce xs → ((k : ℕ) (owner : Owner) → last ≡ Some owner → ¬ (slice_get xs k ≡ Some (Some owner))) → IsOnce (xs ++ last ∷ [])
once_more xs last once fresh k owner repeats =
    let size : length (xs ++ last ∷ []) ≡ length xs + 1 = length-append xs (last ∷ []) in
    let within : k < length (xs ++ last ∷ []) = slice_get_within (xs ++ last ∷ []) k (Some owner) repeats.0 in
    elim (cases_lt k (length xs)) [
      | inl before ↦ once k owner (repeats_less xs (last ∷ []) k owner before repeats)
      | inr past ↦
          let here : k ≡ length xs = omega (arith, size, within, past) in
          let same : last ≡ Some owner = same_Some last (Some owner) (sym (item_behind xs [] last k here) ∙ repeats.0) in
          fresh repeats.1.0 owner same (item_of_front xs (last ∷ []) repeats.1.0 (Some owner) (omega (arith, here, repeats.1.1)) repeats.1.2)
    ]

-- owners that stand once are apart
pub once_apart : (n : ℕ) (owners : Owners) → IsOnce owners → AreApartOwners (padded n owners)
once_apart n owners once j k owner one other =
    let first : slice_get owners j ≡ Some (Some owner) = padded-held n owners j owner one in
    let second : slice_get owners k ≡ Some (Some owner) = padded-held n owners k owner other in
    elim (cases_lt j k) [
      | inl before ↦ absurd (once k owner (second, (j, before, first)))
      | inr past ↦ elim (cases_lt k j) [
        | inl behind ↦ absurd (once j owner (first, (k, behind, second)))
        | inr same ↦ omega (arith, past, same)
      ]
    ]
