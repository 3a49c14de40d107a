-- Lists with nothing, or with more, behind them.
use Rattle.std.proofs.Common.{◌≡◌, ℕ, zero, suc, List, [], ◌∷◌, ◌++◌, Option, Some, None, replicate, slice_get}
use Rattle.std.proofs.lemmas.Option.{none-some, same_Some}

-- nothing stands among none
none_replicated : {X : Type 0} (n k : ℕ) (x : X) → ¬ (slice_get (replicate n None) k ≡ Some (Some x))
none_replicated zero k x is = none-some (Some x) is
none_replicated (suc n) zero x is = none-some x (same_Some None (Some x) is)
none_replicated (suc n) (suc k) x is = none_replicated n k x is

-- so what stands in a list with none behind it stands in the list
pub stands_in_front : {X : Type 0} (xs : List (Option X)) (n k : ℕ) (x : X) → slice_get (xs ++ replicate n None) k ≡ Some (Some x) → slice_get xs k ≡ Some (Some x)
stands_in_front [] n k x is = absurd (none_replicated n k x is)
stands_in_front (y ∷ ys) n zero x is = is
stands_in_front (y ∷ ys) n (suc k) x is = stands_in_front ys n k x is

-- and what stands in a list stands there with more behind it
pub stands_with_more : {X : Type 0} (xs ys : List X) (k : ℕ) (x : X) → slice_get xs k ≡ Some x → slice_get (xs ++ ys) k ≡ Some x
stands_with_more [] ys k x is = absurd (none-some x is)
stands_with_more (y ∷ xs) ys zero x is = is
stands_with_more (y ∷ xs) ys (suc k) x is = stands_with_more xs ys k x is
