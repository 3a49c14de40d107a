-- Lists whose entries are numbered from 1: an entry by where it stands, one that is there anyway, and what holds of each.
use Rattle.std.proofs.Common.{◌≡◌, ◌≤◌, ℕ, zero, suc, ◌+◌, ◌<◌, ◌⊎◌, List, [], ◌∷◌, length, replicate, Option, None, Some, slice_get, slice_index_or, inl, inr, refl, sym, ap, ◌∙◌, subst, arith}
use Rattle.std.specs.Prelude.{slice_set}
use Rattle.std.specs.List.{All}
use Rattle.std.proofs.lemmas.Bool.{cases_eq}
use Rattle.std.proofs.lemmas.Option.{get_or_from_slice_get, none-some, same_Some, slice_get-get_or, slice_get_within}
use Rattle.nesc_requests.specs.Script.{numbered, with_numbered}
use Rattle.hypervisor.proofs.Numbering.{length_numbered, numbered_other, numbered_same, numbered_within}

module _ {A : Type 0} where
  -- the entry that stands at an index
  pub numbered_item : (xs : List A) (f i : ℕ) (x : A) → f ≡ i + 1 → i < length xs → x ≡ slice_index_or xs i x → numbered xs f ≡ Some x
  numbered_item xs f i x is within at =
      let next : f ≡ suc i = omega arith in
      ap (numbered xs) next ∙ slice_get-get_or xs i x within ∙ ap Some (sym at)

  -- and another in its place
  pub with_item : (xs : List A) (f i : ℕ) (x : A) → f ≡ i + 1 → slice_set xs i x ≡ with_numbered xs f x
  with_item xs f i x is = let next : suc i ≡ f = omega arith in ap (λ n. with_numbered xs n x) next

  pub numbered_cases : (xs : List A) (f : ℕ) → (numbered xs f ≡ None) ⊎ ((x : A) × (numbered xs f ≡ Some x))
  numbered_cases xs f = at (numbered xs f)
    where
      at : (o : Option A) → (o ≡ None) ⊎ ((x : A) × (o ≡ Some x))
      at None = inl refl
      at (Some x) = inr (x, refl)

  -- there is one of each number up to how many there are
  pub numbered_some : (xs : List A) (f : ℕ) → 1 ≤ f → f ≤ length xs → (x : A) × (numbered xs f ≡ Some x)
  numbered_some xs zero one among = absurd (omega arith)
  numbered_some xs (suc i) one among = at xs i (omega arith)
    where
      at : (xs : List A) (i : ℕ) → i < length xs → (x : A) × (slice_get xs i ≡ Some x)
      at [] i within = absurd (omega arith)
      at (x ∷ xs) zero within = (x, refl)
      at (x ∷ xs) (suc i) within = at xs i (omega arith)

  pub numbered_replicate : (n : ℕ) (x : A) (f : ℕ) (y : A) → numbered (replicate n x) f ≡ Some y → y ≡ x
  numbered_replicate n x zero y is = absurd (none-some y is)
  numbered_replicate n x (suc i) y is = at n i is
    where
      at : (n i : ℕ) → slice_get (replicate n x) i ≡ Some y → y ≡ x
      at zero i is = absurd (none-some y is)
      at (suc n) zero is = sym (same_Some x y is)
      at (suc n) (suc i) is = at n i is

  -- what holds of each holds of one
  pub all_numbered : (P : A → Type 0) (xs : List A) → All P xs → (f : ℕ) (x : A) → numbered xs f ≡ Some x → P x
  all_numbered P xs each zero x at = absurd (none-some x at)
  all_numbered P xs each (suc i) x at = subst P (get_or_from_slice_get xs i x x at) (each i x (slice_get_within xs i x at))

  set_none : (xs : List A) (i : ℕ) (x : A) → slice_get xs i ≡ None → slice_set xs i x ≡ xs
  set_none [] i x none = refl
  set_none (y ∷ xs) zero x none = absurd (none-some y (sym none))
  set_none (y ∷ xs) (suc i) x none = ap (λ zs. y ∷ zs) (set_none xs i x none)

  -- where there is no such entry, none changes
  pub with_none : (xs : List A) (f : ℕ) (x : A) → numbered xs f ≡ None → with_numbered xs f x ≡ xs
  with_none xs zero x none = refl
  with_none xs (suc i) x none = set_none xs i x none

  set_same : (xs : List A) (i : ℕ) (x : A) → slice_get xs i ≡ Some x → slice_set xs i x ≡ xs
  set_same [] i x at = absurd (none-some x at)
  set_same (y ∷ xs) zero x at = ap (λ z. z ∷ xs) (sym (same_Some _ _ at))
  set_same (y ∷ xs) (suc i) x at = ap (λ zs. y ∷ zs) (set_same xs i x at)

  -- the entry that is there anyway
  pub with_same : (xs : List A) (f : ℕ) (x : A) → numbered xs f ≡ Some x → with_numbered xs f x ≡ xs
  with_same xs zero x at = absurd (none-some x at)
  with_same xs (suc i) x at = set_same xs i x at

  -- what holds of each entry holds of each where it holds of the one that came
  pub each_with : (P : ℕ → A → Type 0) (xs : List A) (f : ℕ) (x : A) → P f x → ((g : ℕ) (y : A) → numbered xs g ≡ Some y → P g y)
      → (g : ℕ) (y : A) → numbered (with_numbered xs f x) g ≡ Some y → P g y
  each_with P xs f x here each g y at = elim (cases_eq g f) [
    | inl same ↦
        let within = numbered_within (with_numbered xs f x) g y at in
        let stands = numbered_same xs f x (omega (arith, within.0, same)) (omega (arith, within.1, same, length_numbered xs f x)) in
        let is : x ≡ y = same_Some x y (sym stands ∙ ap (numbered (with_numbered xs f x)) (sym same) ∙ at) in
        subst (λ (z : A). P g z) is (subst (λ n. P n x) (sym same) here)
    | inr apart ↦ each g y (sym (numbered_other xs f g x apart) ∙ at)
  ]
