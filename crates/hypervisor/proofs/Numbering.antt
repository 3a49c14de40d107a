-- Lists whose entries are numbered from 1, and one entry that changes.
use Rattle.std.proofs.Common.{◌≡◌, ◌≢◌, ℕ, zero, suc, ◌-◌, ◌≤◌, List, get_or, length, Option, Some, None, option_map, map, refl, ap, ◌∙◌, arith}
use Rattle.std.specs.Prelude.{slice_set, unwrap_or}
use Rattle.std.proofs.lemmas.List.{length-set}
use Rattle.std.proofs.lemmas.Option.{none-some, slice_get-map, slice_get_within, unwrap_or-slice_get}
use Rattle.nesc_base.proofs.Differing.{slice_get-set_other, slice_get-set_same}
use Rattle.nesc_requests.specs.Script.{numbered, with_numbered}

module _ {A : Type 0} where
  -- the entry that was put
  pub numbered_same : (xs : List A) (f : ℕ) (x : A) → 1 ≤ f → f ≤ length xs → numbered (with_numbered xs f x) f ≡ Some x
  numbered_same xs zero x one among = absurd (omega arith)
  numbered_same xs (suc i) x one among = slice_get-set_same xs i x (omega arith)

  -- where it is put
  pub numbered_at : (xs : List A) (f : ℕ) (x : A) → 1 ≤ f → with_numbered xs f x ≡ slice_set xs (f - 1) x
  numbered_at xs zero x one = absurd (omega arith)
  numbered_at xs (suc i) x one = let at : i ≡ suc i - 1 = omega arith in ap (λ k. slice_set xs k x) at

  -- and the others
  pub numbered_other : (xs : List A) (f g : ℕ) (x : A) → g ≢ f → numbered (with_numbered xs f x) g ≡ numbered xs g
  numbered_other xs zero g x apart = refl
  numbered_other xs (suc i) zero x apart = refl
  numbered_other xs (suc i) (suc j) x apart = slice_get-set_other xs i j x (λ same. apart (ap suc same))

  pub length_numbered : (xs : List A) (f : ℕ) (x : A) → length (with_numbered xs f x) ≡ length xs
  length_numbered xs zero x = refl
  length_numbered xs (suc i) x = length-set xs i x

  -- an entry that is there has a number
  pub numbered_within : (xs : List A) (f : ℕ) (x : A) → numbered xs f ≡ Some x → (1 ≤ f) × (f ≤ length xs)
  numbered_within xs zero x is = absurd (none-some x is)
  numbered_within xs (suc i) x is = let within = slice_get_within xs i x is in (omega arith, omega (arith, within))

-- what is made of each entry
pub numbered_map : {A B : Type 0} (g : A → B) (xs : List A) (f : ℕ) → numbered (map g xs) f ≡ option_map g (numbered xs f)
numbered_map g xs zero = refl
numbered_map g xs (suc i) = slice_get-map g xs i

-- an entry that may be none, by its place
pub entry_by_place : {A : Type 0} (xs : List (Option A)) (f : ℕ) → 1 ≤ f → unwrap_or (numbered xs f) None ≡ get_or xs (f - 1) None
entry_by_place xs zero one = absurd (omega arith)
entry_by_place xs (suc i) one = let at : i ≡ suc i - 1 = omega arith in unwrap_or-slice_get xs i None ∙ ap (λ k. get_or xs k None) at
