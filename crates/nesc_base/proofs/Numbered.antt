-- The map that has the items of a list by their numbers.
use Rattle.std.proofs.Common.{◌≡◌, ℕ, zero, suc, ◌+◌, ◌-◌, ◌<◌, List, [], ◌∷◌, Option, Some, None, inl, inr, option_map, slice_get, refl, sym, ◌∙◌, arith, subst}
use Rattle.std.specs.Prelude.{unwrap_or}
use Rattle.std.specs.FinMap.{get, insert, get-empty}
use Rattle.std.specs.Ordering.{nat_cmp}
use Rattle.std.proofs.lemmas.Bool.{cases_lt}
use Rattle.std.proofs.lemmas.Option.{none-some, same_Some}
use Rattle.nesc_base.specs.Numbered.{map_from}
use Rattle.nesc_base.proofs.Maps.{get-insert_other, get-insert_same}

-- what is f of an item, if there is one
mapped : {X Y : Type 0} (f : X → Y) (o : Option (Option X)) (y : Y) → option_map f (unwrap_or o None) ≡ Some y → (x : X) × (o ≡ Some (Some x)) × (f x ≡ y)
mapped f None y is = absurd (none-some y is)
mapped f (Some None) y is = absurd (none-some y is)
mapped f (Some (Some x)) y is = (x, refl, same_Some (f x) y is)

module _ {X Y : Type 0} (f : ℕ → X → Y) where
  -- nothing has a lower number
  pub get_before : (n : ℕ) (xs : List (Option X)) (q : ℕ) → q < n → get (map_from f n xs) q ≡ None
  get_before n [] q less = get-empty {X = Y} nat_cmp q
  get_before n (None ∷ xs) q less = get_before (suc n) xs q (omega arith)
  get_before n (Some x ∷ xs) q less = get-insert_other (map_from f (suc n) xs) n (f n x) q (λ same. omega (arith, same)) ∙ get_before (suc n) xs q (omega arith)

  -- an item is one on among the items behind
  one_on : (n : ℕ) (xs : List (Option X)) (k : ℕ) → get (map_from f (suc n) xs) (suc n + k) ≡ option_map (f (suc n + k)) (unwrap_or (slice_get xs k) None)
      → get (map_from f (suc n) xs) (n + suc k) ≡ option_map (f (n + suc k)) (unwrap_or (slice_get xs k) None)
  one_on n xs k is =
      let same : suc n + k ≡ n + suc k = omega arith in
      subst (λ q. get (map_from f (suc n) xs) q ≡ option_map (f q) (unwrap_or (slice_get xs k) None)) same is

  -- each stands at its number
  pub get_from : (n : ℕ) (xs : List (Option X)) (k : ℕ) → get (map_from f n xs) (n + k) ≡ option_map (f (n + k)) (unwrap_or (slice_get xs k) None)
  get_from n [] k = get-empty {X = Y} nat_cmp (n + k)
  get_from n (None ∷ xs) zero = get_before (suc n) xs (n + 0) (omega arith)
  get_from n (None ∷ xs) (suc k) = one_on n xs k (get_from (suc n) xs k)
  get_from n (Some x ∷ xs) zero =
      let here : n ≡ n + 0 = omega arith in
      subst (λ q. get (insert (map_from f (suc n) xs) n (f n x)) q ≡ Some (f q x)) here (get-insert_same (map_from f (suc n) xs) n (f n x))
  get_from n (Some x ∷ xs) (suc k) =
      get-insert_other (map_from f (suc n) xs) n (f n x) (n + suc k) (λ same. omega (arith, same)) ∙ one_on n xs k (get_from (suc n) xs k)

  -- what is found is f of an item
  pub found : (n : ℕ) (xs : List (Option X)) (q : ℕ) (y : Y) → get (map_from f n xs) q ≡ Some y
      → (k : ℕ) × (q ≡ n + k) × ((x : X) × (slice_get xs k ≡ Some (Some x)) × (f q x ≡ y))
  found n xs q y is = elim (cases_lt q n) [
    | inl less ↦ absurd (none-some y (sym (get_before n xs q less) ∙ is))
    | inr high ↦
        let at : q ≡ n + (q - n) = omega arith in
        let here : option_map (f q) (unwrap_or (slice_get xs (q - n)) None) ≡ Some y =
        subst (λ p. option_map (f p) (unwrap_or (slice_get xs (q - n)) None) ≡ get (map_from f n xs) p) (sym at) (sym (get_from n xs (q - n))) ∙ is in
        (q - n, at, mapped (f q) (slice_get xs (q - n)) y here)
  ]
