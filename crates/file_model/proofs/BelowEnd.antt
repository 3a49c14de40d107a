-- What a map has once only what lies below an end is kept.
use Rattle.std.proofs.Common.{◌≡◌, ℕ, ◌<◌, ◌≤◌, true, false, cond, Equal, None, sym, ap, ◌∙◌, arith}
use Rattle.std.specs.Prelude.{nat_lt}
use Rattle.std.specs.FinMap.{FinMap, get, get-retain_keys, nat_cmp-IsAntisymmetric, retain_keys}
use Rattle.std.specs.Ordering.{nat_cmp}
use Rattle.std.proofs.lemmas.Bool.Decides.{nat_tests}

module _ {X : Type 0} (m : FinMap nat_cmp X) (end v : ℕ) where
  one_test : (x : ℕ) → nat_cmp v x ≡ Equal → nat_lt x end ≡ nat_lt v end
  one_test x tied = ap (λ w. nat_lt w end) (sym (nat_cmp-IsAntisymmetric v x tied))

  get-below : get (retain_keys m (λ w. nat_lt w end)) v ≡ cond (nat_lt v end) (get m v) None
  get-below = get-retain_keys m (λ w. nat_lt w end) v one_test

  pub get-below_kept : v < end → get (retain_keys m (λ w. nat_lt w end)) v ≡ get m v
  get-below_kept less = let is : nat_lt v end ≡ true = grind (arith, nat_tests) in get-below ∙ ap (λ b. cond b (get m v) None) is

  pub get-below_gone : end ≤ v → get (retain_keys m (λ w. nat_lt w end)) v ≡ None
  get-below_gone past = let is : nat_lt v end ≡ false = grind (arith, nat_tests) in get-below ∙ ap (λ b. cond b (get m v) None) is
