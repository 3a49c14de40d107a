-- Which blocks of a file are not held.
use Rattle.std.proofs.Common.{◌≡◌, ◌≢◌, inl, inr, ℕ, zero, suc, ◌+◌, ◌-◌, ◌≤◌, Bool, true, false, not, cond, List, [], ◌∷◌, ◌++◌, length, Option, Some, None, refl, sym, ap, ◌∙◌, arith}
use Rattle.std.specs.Prelude.{◌||◌, slice_get, filter, min}
use Rattle.std.specs.List.{list_any, range_with_len}
use Rattle.std.proofs.lemmas.Bool.{cases_eq}
use Rattle.std.proofs.lemmas.Bool.Decides.{nat_tests}
use Rattle.std.proofs.lemmas.List.Elements.{filter-append}
use Rattle.std.proofs.lemmas.Option.{none-some, same_Some}
use Rattle.nesc_base.specs.Places.{Owner}
use Rattle.block_map.specs.Map.{IsUnheld, StandsAt}
use Rattle.file_layer.proofs.Passing.{pass_below}
use Rattle.file_layer.specs.Layer.{Layer, is_held, is_owned_by, lacking, lacking_below}

or_true : (b : Bool) → (b || true) ≡ true
or_true true = refl
or_true false = refl

-- one element that passes is enough
any_at : {X : Type 0} (p : X → Bool) (xs : List X) (k : ℕ) (x : X) → slice_get xs k ≡ Some x → p x ≡ true → list_any p xs ≡ true
any_at p [] k x is passes = absurd (none-some x is)
any_at p (y ∷ ys) zero x is passes = ap (λ b. b || list_any p ys) (ap p (same_Some y x is) ∙ passes)
any_at p (y ∷ ys) (suc k) x is passes = ap (λ b. p y || b) (any_at p ys k x is passes) ∙ or_true (p y)

-- and none passes where each fails
any_none : {X : Type 0} (p : X → Bool) (xs : List X) → ((k : ℕ) (x : X) → slice_get xs k ≡ Some x → p x ≡ false) → list_any p xs ≡ false
any_none p [] fails = refl
any_none p (x ∷ xs) fails = ap (λ b. b || list_any p xs) (fails zero x refl) ∙ any_none p xs (λ k y is. fails (suc k) y is)

owned_by : (n v : ℕ) (owner : Owner) → owner.0.0 ≡ n → owner.1 ≡ v → is_owned_by n v (Some owner) ≡ true
owned_by n v owner file place = grind (arith, nat_tests)

not_owned_by : (n v : ℕ) (owner : Owner) → ¬ ((owner.0.0 ≡ n) × (owner.1 ≡ v)) → is_owned_by n v (Some owner) ≡ false
not_owned_by n v owner other = elim (cases_eq owner.0.0 n) [
  | inl file ↦ elim (cases_eq owner.1 v) [
    | inl place ↦ absurd (other (file, place))
    | inr apart ↦ other_place n v owner apart
  ]
  | inr apart ↦ other_file n v owner apart
]
  where
    other_place : (n v : ℕ) (owner : Owner) → owner.1 ≢ v → is_owned_by n v (Some owner) ≡ false
    other_place n v owner apart = grind (arith, nat_tests)

    other_file : (n v : ℕ) (owner : Owner) → owner.0.0 ≢ n → is_owned_by n v (Some owner) ≡ false
    other_file n v owner apart = grind (arith, nat_tests)

-- Ranges

range_parts : (a n m all : ℕ) → all ≡ n + m → range_with_len a all ≡ range_with_len a n ++ range_with_len (a + n) m
range_parts a zero m all is =
    let as_many : all ≡ m = omega arith in
    let there : a + zero ≡ a = omega arith in
    ap (range_with_len a) as_many ∙ ap (λ b. range_with_len b m) (sym there)
range_parts a (suc n) m zero is = absurd (omega arith)
range_parts a (suc n) m (suc all) is =
    let there : a + 1 + n ≡ a + suc n = omega arith in
    ap (λ rest. a ∷ rest) (range_parts (a + 1) n m all (omega arith) ∙ ap (λ b. range_with_len (a + 1) n ++ range_with_len b m) there)

module _ (files : Layer) (n : ℕ) where
  pub held_where_stands : (v at : ℕ) → StandsAt files.map n v at → is_held files n v ≡ true
  held_where_stands v at (k, owner, is, file, place, there) = any_at (is_owned_by n v) files.map.owners k (Some owner) is (owned_by n v owner file place)

  not_held_at : (v : ℕ) → IsUnheld files.map n v → (k : ℕ) (o : Option Owner) → slice_get files.map.owners k ≡ Some o → is_owned_by n v o ≡ false
  not_held_at v unheld k None is = refl
  not_held_at v unheld k (Some owner) is = not_owned_by n v owner (λ same. unheld (files.map.from + k) (k, owner, is, same.0, same.1, refl))

  pub not_held : (v : ℕ) → IsUnheld files.map n v → is_held files n v ≡ false
  not_held v unheld = any_none (is_owned_by n v) files.map.owners (not_held_at v unheld)

  -- those of a range are those of its front and those of its end
  pub lacking_rest : (v at end : ℕ) → v ≤ at → at ≤ end → lacking files n v (end - v) ≡ lacking files n v (at - v) ++ lacking files n at (end - at)
  lacking_rest v at end from to =
      let lacks : ℕ → Bool = λ w. not (is_held files n w) in
      let there : v + (at - v) ≡ at = omega arith in
      ap (filter lacks) (range_parts v (at - v) (end - at) (end - v) (omega arith) ∙ ap (λ w. range_with_len v (at - v) ++ range_with_len w (end - at)) there)
      ∙ filter-append lacks (range_with_len v (at - v)) (range_with_len at (end - at))

  one_more : (v at : ℕ) → v ≤ at → (b : Bool) → is_held files n at ≡ b → lacking files n v (at + 1 - v) ≡ lacking files n v (at - v) ++ cond (not b) (at ∷ []) []
  one_more v at from b is =
      let one : at + 1 - at ≡ 1 = omega arith in
      lacking_rest v at (at + 1) from (omega arith)
      ∙ ap (λ rest. lacking files n v (at - v) ++ rest) (ap (lacking files n at) one ∙ ap {B = List ℕ} (λ b. cond (not b) (at ∷ []) []) is)

  -- one block more that is not held, and one that is
  pub lacking_unheld : (v at : ℕ) → v ≤ at → is_held files n at ≡ false → lacking files n v (at + 1 - v) ≡ lacking files n v (at - v) ++ at ∷ []
  lacking_unheld v at from is = one_more v at from false is

  pub lacking_held : (v at : ℕ) → v ≤ at → is_held files n at ≡ true → lacking files n v (at + 1 - v) ≡ lacking files n v (at - v)
  lacking_held v at from is = one_more v at from true is ∙ append_nil (lacking files n v (at - v))
    where
      append_nil : (xs : List ℕ) → xs ++ [] ≡ xs
      append_nil [] = refl
      append_nil (x ∷ xs) = ap (λ rest. x ∷ rest) (append_nil xs)

-- Those that lie below a length

-- those up to the length are those below it
pub lacking_to : (files : Layer) (n v count length end : ℕ) → end ≡ min (v + count) length → lacking files n v (end - v) ≡ lacking_below files n length v count
lacking_to files n v count length end is =
    ap (λ e. lacking files n v (e - v)) is ∙ sym (pass_below (λ at. not (is_held files n at)) length v count (min (v + count) length - v) refl)
