-- Elements of a list by their places in its parts.
use Rattle.std.proofs.Common.{◌≡◌, ◌⊎◌, inl, inr, ℕ, zero, suc, ◌+◌, ◌-◌, ◌<◌, ◌≤◌, List, [], ◌∷◌, ◌++◌, length, map, take, drop, set, slice_get, Some, refl, sym, ap, ◌∙◌, arith}
use Rattle.std.specs.List.{insert, remove}
use Rattle.std.proofs.lemmas.List.{append_assoc, drop-set-lt, set_split, take_more_set}
use Rattle.std.proofs.lemmas.Option.{none-some, same_Some}

-- where an element of two lists stands, one behind the other
pub at_append : {X : Type 0} (xs ys : List X) (k : ℕ) (x : X) → slice_get (xs ++ ys) k ≡ Some x
    → (slice_get xs k ≡ Some x) ⊎ ((j : ℕ) × (k ≡ length xs + j) × (slice_get ys j ≡ Some x))
at_append [] ys k x stands = inr (k, omega arith, stands)
at_append (y ∷ xs) ys zero x stands = inl stands
at_append (y ∷ xs) ys (suc k) x stands = elim (at_append xs ys k x stands) [
  | inl here ↦ inl here
  | inr behind ↦ inr (behind.0, (let place : k ≡ length xs + behind.0 = behind.1 in omega arith), behind.2)
]

pub at_left : {X : Type 0} (xs ys : List X) (k : ℕ) (x : X) → slice_get xs k ≡ Some x → slice_get (xs ++ ys) k ≡ Some x
at_left [] ys k x stands = absurd (none-some x stands)
at_left (y ∷ xs) ys zero x stands = stands
at_left (y ∷ xs) ys (suc k) x stands = at_left xs ys k x stands

pub at_right : {X : Type 0} (xs ys : List X) (j k : ℕ) (x : X) → k ≡ length xs + j → slice_get ys j ≡ Some x → slice_get (xs ++ ys) k ≡ Some x
at_right [] ys j k x place stands = let same : k ≡ j = omega arith in ap (slice_get ys) same ∙ stands
at_right (y ∷ xs) ys j zero x place stands = absurd (omega arith)
at_right (y ∷ xs) ys j (suc k) x place stands = at_right xs ys j k x (omega arith) stands

-- the element of a list of one
pub alone : {X : Type 0} (x y : X) (k : ℕ) → slice_get (x ∷ []) k ≡ Some y → x ≡ y
alone x y zero stands = same_Some x y stands
alone x y (suc k) stands = absurd (none-some y stands)

-- the elements of a list's front and of its rest
pub at_take : {X : Type 0} (n : ℕ) (xs : List X) (k : ℕ) (x : X) → slice_get (take n xs) k ≡ Some x → (k < n) × (slice_get xs k ≡ Some x)
at_take zero xs k x stands = absurd (none-some x stands)
at_take (suc n) [] k x stands = absurd (none-some x stands)
at_take (suc n) (y ∷ xs) zero x stands = (omega arith, stands)
at_take (suc n) (y ∷ xs) (suc k) x stands = let rest = at_take n xs k x stands in (omega (arith, rest.0), rest.1)

pub at_drop : {X : Type 0} (n : ℕ) (xs : List X) (k : ℕ) → slice_get (drop n xs) k ≡ slice_get xs (n + k)
at_drop zero xs k = let same : 0 + k ≡ k = omega arith in ap (slice_get xs) (sym same)
at_drop (suc n) [] k = refl
at_drop (suc n) (y ∷ xs) k = at_drop n xs k ∙ (let same : suc (n + k) ≡ suc n + k = omega arith in ap (slice_get (y ∷ xs)) same)

-- a list up to an element and behind it
pub take_next : {X : Type 0} (xs : List X) (k : ℕ) (x : X) → slice_get xs k ≡ Some x → take (suc k) xs ≡ take k xs ++ x ∷ []
take_next [] k x stands = absurd (none-some x stands)
take_next (y ∷ xs) zero x stands = ap (λ z. z ∷ []) (same_Some y x stands)
take_next (y ∷ xs) (suc k) x stands = ap (λ zs. y ∷ zs) (take_next xs k x stands)

pub drop_next : {X : Type 0} (xs : List X) (k : ℕ) (x : X) → slice_get xs k ≡ Some x → drop k xs ≡ x ∷ drop (suc k) xs
drop_next [] k x stands = absurd (none-some x stands)
drop_next (y ∷ xs) zero x stands = ap (λ z. z ∷ xs) (same_Some y x stands)
drop_next (y ∷ xs) (suc k) x stands = drop_next xs k x stands

-- Edits as what stands before and behind them

pub set_over : {X : Type 0} (xs : List X) (from to : ℕ) (x : X) → to ≡ suc from → to ≤ length xs → set xs from x ≡ take from xs ++ x ∷ drop to xs
set_over xs from to x next within = set_split xs from x (omega arith) ∙ ap (λ n. take from xs ++ x ∷ drop n xs) (sym next)

over_next : {X : Type 0} (xs : List X) (from : ℕ) (x : X) → suc (suc from) ≤ length xs
    → set (remove xs (suc from)) from x ≡ take from xs ++ x ∷ drop (suc (suc from)) xs
over_next [] from x within = absurd (omega arith)
over_next (y ∷ []) from x within = absurd (omega arith)
over_next (y ∷ (z ∷ zs)) zero x within = refl
over_next (y ∷ (z ∷ zs)) (suc from) x within = ap (λ rest. y ∷ rest) (over_next (z ∷ zs) from x (omega arith))

pub set_over_two : {X : Type 0} (xs : List X) (from next to : ℕ) (x : X) → next ≡ suc from → to ≡ suc (suc from) → to ≤ length xs
    → set (remove xs next) from x ≡ take from xs ++ x ∷ drop to xs
set_over_two xs from next to x one two within =
    ap (λ n. set (remove xs n) from x) one ∙ over_next xs from x (omega arith) ∙ ap (λ n. take from xs ++ x ∷ drop n xs) (sym two)

-- one element in place of another, and two
pub set_parts : {X : Type 0} (xs parts : List X) (k : ℕ) (x : X) → k < length xs → parts ≡ x ∷ [] → set xs k x ≡ take k xs ++ (parts ++ drop (k + 1) xs)
set_parts xs parts k x within are = set_over xs k (k + 1) x (omega arith) (omega arith) ∙ ap (λ ys. take k xs ++ (ys ++ drop (k + 1) xs)) (sym are)

pub insert_parts : {X : Type 0} (xs parts : List X) (k : ℕ) (x y : X) → k < length xs → parts ≡ x ∷ (y ∷ [])
    → insert (set xs k x) (k + 1) y ≡ take k xs ++ (parts ++ drop (k + 1) xs)
insert_parts xs parts k x y within are =
    ap (λ zs. zs ++ y ∷ drop (k + 1) (set xs k x)) (take_more_set xs k x within)
    ∙ ap (λ zs. (take k xs ++ x ∷ []) ++ y ∷ zs) (drop-set-lt (k + 1) xs k x (omega arith))
    ∙ append_assoc (take k xs) (x ∷ []) (y ∷ drop (k + 1) xs)
    ∙ ap (λ ys. take k xs ++ (ys ++ drop (k + 1) xs)) (sym are)

pub take_at_left : {X : Type 0} (n : ℕ) (xs : List X) (k : ℕ) (x : X) → k < n → slice_get xs k ≡ Some x → slice_get (take n xs) k ≡ Some x
take_at_left zero xs k x less stands = absurd (omega arith)
take_at_left (suc n) [] k x less stands = absurd (none-some x stands)
take_at_left (suc n) (y ∷ xs) zero x less stands = stands
take_at_left (suc n) (y ∷ xs) (suc k) x less stands = take_at_left n xs k x (omega arith) stands

-- the elements from one place on up to another
pub at_between : {X : Type 0} (xs : List X) (from to k : ℕ) (x : X) → slice_get (take (to - from) (drop from xs)) k ≡ Some x → (from + k < to) × (slice_get xs (from + k) ≡ Some x)
at_between xs from to k x stands =
    let front = at_take (to - from) (drop from xs) k x stands in
    let less = front.0 in
    (omega arith, sym (at_drop from xs k) ∙ front.1)

pub between_at : {X : Type 0} (xs : List X) (from to k j : ℕ) (x : X) → k ≡ from + j → k < to → slice_get xs k ≡ Some x → slice_get (take (to - from) (drop from xs)) j ≡ Some x
between_at xs from to k j x place less stands = take_at_left (to - from) (drop from xs) j x (omega arith) (at_drop from xs j ∙ ap (slice_get xs) (sym place) ∙ stands)

-- the elements of a list of what others give
pub at_map : {X Y : Type 0} (f : X → Y) (xs : List X) (k : ℕ) (y : Y) → slice_get (map f xs) k ≡ Some y → (x : X) × (slice_get xs k ≡ Some x) × (f x ≡ y)
at_map f [] k y stands = absurd (none-some y stands)
at_map f (x ∷ xs) zero y stands = (x, refl, same_Some (f x) y stands)
at_map f (x ∷ xs) (suc k) y stands = at_map f xs k y stands

pub map_at : {X Y : Type 0} (f : X → Y) (xs : List X) (k : ℕ) (x : X) → slice_get xs k ≡ Some x → slice_get (map f xs) k ≡ Some (f x)
map_at f [] k x stands = absurd (none-some x stands)
map_at f (y ∷ xs) zero x stands = ap (λ z. Some (f z)) (same_Some y x stands)
map_at f (y ∷ xs) (suc k) x stands = map_at f xs k x stands
