-- What is kept of a range of numbers.
use Rattle.std.proofs.Common.{◌≡◌, ℕ, zero, suc, ◌+◌, ◌<◌, ◌≤◌, Bool, true, false, cond, List, [], ◌∷◌, length, refl, ap, ◌∙◌, arith, filter}
use Rattle.std.specs.List.{AllByRecursion, range_with_len}

all_kept : (P : ℕ → Type 0) (a : ℕ) (rest : List ℕ) (b : Bool) → (b ≡ true → P a) → AllByRecursion P rest
    → AllByRecursion P (cond b (a ∷ rest) rest)
all_kept P a rest true here later = (here refl, later)
all_kept P a rest false here later = later

-- what holds of each number of a range that passes holds of those that are kept
pub all_filtered : (P : ℕ → Type 0) (p : ℕ → Bool) (a n : ℕ) → ((k : ℕ) → a ≤ k → k < a + n → p k ≡ true → P k)
    → AllByRecursion P (filter p (range_with_len a n))
all_filtered P p a zero holds = tt
all_filtered P p a (suc n) holds =
    let low : a ≤ a = omega arith in
    let high : a < a + suc n = omega arith in
    all_kept P a (filter p (range_with_len (a + 1) n)) (p a) (holds a low high)
    (all_filtered P p (a + 1) n (λ k from to.
    let later : a ≤ k = omega arith in
    let within : k < a + suc n = omega arith in
    holds k later within))

-- where none passes, nothing is left
pub none_filtered : (p : ℕ → Bool) (xs : List ℕ) → AllByRecursion (λ x. p x ≡ false) xs → filter p xs ≡ []
none_filtered p [] fails = refl
none_filtered p (x ∷ xs) fails = ap (λ (b : Bool). cond b (x ∷ filter p xs) (filter p xs)) fails.0 ∙ none_filtered p xs fails.1

-- where each passes, all are left
pub each_filtered : (xs : List ℕ) → length (filter (λ _. true) xs) ≡ length xs
each_filtered [] = refl
each_filtered (x ∷ xs) = ap suc (each_filtered xs)
