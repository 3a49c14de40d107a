-- The blocks of a range that pass a test, and how many they are.
use Rattle.std.proofs.Common.{◌≡◌, ℕ, zero, suc, ◌+◌, ◌-◌, ◌<◌, ◌≤◌, Bool, true, false, cond, List, [], ◌∷◌, length, inl, inr, refl, ap, ◌∙◌, arith}
use Rattle.std.specs.Prelude.{min, nat_lt}
use Rattle.std.specs.List.{filter, range_with_len}
use Rattle.std.proofs.lemmas.Bool.{cases_lt}

length_kept : {X : Type 0} (b : Bool) (x : X) (xs : List X) → length (cond b (x ∷ xs) xs) ≡ cond b 1 0 + length xs
length_kept true x xs = omega arith
length_kept false x xs = omega arith

-- with one more
more_pass : (p : ℕ → Bool) (a n : ℕ) → length (filter p (range_with_len a (suc n))) ≡ length (filter p (range_with_len a n)) + cond (p (a + n)) 1 0
more_pass p a zero =
    let here : a + 0 ≡ a = omega arith in
    let same : cond {A = ℕ} (p (a + 0)) 1 0 ≡ cond (p a) 1 0 = ap (λ v. cond {A = ℕ} (p v) 1 0) here in
    omega (arith, length_kept (p a) a [], same)
more_pass p a (suc n) =
    let next : a + suc n ≡ a + 1 + n = omega arith in
    let same : cond {A = ℕ} (p (a + suc n)) 1 0 ≡ cond (p (a + 1 + n)) 1 0 = ap (λ v. cond {A = ℕ} (p v) 1 0) next in
    omega (arith, length_kept (p a) a (filter p (range_with_len (a + 1) (suc n))), length_kept (p a) a (filter p (range_with_len (a + 1) n)), same, more_pass p (a + 1) n)

-- as a loop over them counts
pub count_more : (p : ℕ → Bool) (v at : ℕ) → v ≤ at → length (filter p (range_with_len v (at + 1 - v))) ≡ length (filter p (range_with_len v (at - v))) + cond (p at) 1 0
count_more p v at behind =
    let next : at + 1 - v ≡ suc (at - v) = omega arith in
    let here : v + (at - v) ≡ at = omega arith in
    ap (λ n. length (filter p (range_with_len v n))) next ∙ more_pass p v (at - v) ∙ ap (λ w. length (filter p (range_with_len v (at - v))) + cond {A = ℕ} (p w) 1 0) here

-- those below a length that pass are those of the range that ends there
kept_below : (below : ℕ) (b : Bool) (v : ℕ) (rest : List ℕ) → v < below
    → filter (λ at. nat_lt at below) (cond b (v ∷ rest) rest) ≡ cond b (v ∷ filter (λ at. nat_lt at below) rest) (filter (λ at. nat_lt at below) rest)
kept_below below true v rest less = let yes : nat_lt v below ≡ true = grind arith in ap (λ b. cond b (v ∷ filter (λ at. nat_lt at below) rest) (filter (λ at. nat_lt at below) rest)) yes
kept_below below false v rest less = refl

left_out : (below : ℕ) (b : Bool) (v : ℕ) (rest : List ℕ) → below ≤ v → filter (λ at. nat_lt at below) (cond b (v ∷ rest) rest) ≡ filter (λ at. nat_lt at below) rest
left_out below true v rest past = let no : nat_lt v below ≡ false = grind arith in ap (λ b. cond b (v ∷ filter (λ at. nat_lt at below) rest) (filter (λ at. nat_lt at below) rest)) no
left_out below false v rest past = refl

pub pass_below : (p : ℕ → Bool) (below v n m : ℕ) → m ≡ min (v + n) below - v → filter (λ at. nat_lt at below) (filter p (range_with_len v n)) ≡ filter p (range_with_len v m)
pass_below p below v zero m ends =
    let none : 0 ≡ m = omega (arith, ends) in
    ap (λ k. filter p (range_with_len v k)) none
pass_below p below v (suc n) m ends = elim (cases_lt v below) [
  | inl less ↦
      let some : suc (m - 1) ≡ m = omega (arith, ends) in
      let rest : m - 1 ≡ min (v + 1 + n) below - (v + 1) = omega (arith, ends) in
      kept_below below (p v) v (filter p (range_with_len (v + 1) n)) less
      ∙ ap (λ xs. cond (p v) (v ∷ xs) xs) (pass_below p below (v + 1) n (m - 1) rest)
      ∙ ap (λ k. filter p (range_with_len v k)) some
  | inr past ↦
      let rest : 0 ≡ min (v + 1 + n) below - (v + 1) = omega arith in
      let none : 0 ≡ m = omega (arith, ends) in
      left_out below (p v) v (filter p (range_with_len (v + 1) n)) past ∙ pass_below p below (v + 1) n 0 rest ∙ ap (λ k. filter p (range_with_len v k)) none
]
