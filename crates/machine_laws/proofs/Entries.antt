-- The functions after one of them became another.
use Rattle.std.proofs.Common.{◌≡◌, ℕ, zero, suc, List, [], ◌∷◌, length, slice_get, slice_set, refl}
use Rattle.std.specs.Prelude.{unwrap_or}
use Rattle.std.specs.List.{AllByRecursion}
use Rattle.std.proofs.lemmas.List.{length-set}
use Rattle.nesc_requests.specs.Script.{with_numbered}
use Rattle.plain_machine.specs.Functions.{Function, function_at, off}

pub length_with : (functions : List Function) (f : ℕ) (after : Function) → length (with_numbered functions f after) ≡ length functions
length_with functions zero after = refl
length_with functions (suc i) after = length-set functions i after

module _ (P : Function → Type 0) where
  all_set : (functions : List Function) (i : ℕ) (after : Function) → P after → AllByRecursion P functions
      → AllByRecursion P (slice_set functions i after)
  all_set [] i after here each = tt
  all_set (one ∷ functions) zero after here each = (here, each.1)
  all_set (one ∷ functions) (suc i) after here each = (each.0, all_set functions i after here each.1)

  -- what holds of each holds of each where it holds of the one that came
  pub all_with : (functions : List Function) (f : ℕ) (after : Function) → P after → AllByRecursion P functions
      → AllByRecursion P (with_numbered functions f after)
  all_with functions zero after here each = each
  all_with functions (suc i) after here each = all_set functions i after here each

  all_got : (functions : List Function) (i : ℕ) → P off → AllByRecursion P functions → P (unwrap_or (slice_get functions i) off)
  all_got [] i none each = none
  all_got (one ∷ functions) zero none each = each.0
  all_got (one ∷ functions) (suc i) none each = all_got functions i none each.1

  -- what holds of each holds of the function of a number, if it holds of one that is off
  pub all_at : (functions : List Function) (f : ℕ) → P off → AllByRecursion P functions → P (function_at functions f)
  all_at functions zero none each = none
  all_at functions (suc i) none each = all_got functions i none each
