-- A finite map from numbers after changes at one number.
use Rattle.std.proofs.Common.{◌≡◌, ◌≢◌, ℕ, true, false, cond, Some, None, refl, sym, ap, ◌∙◌, ⊎_elim, arith}
use Rattle.std.specs.Cmp.{nat_cmp_total, unsigned_tied}
use Rattle.std.specs.FinMap.{FinMap, get, insert, remove, get-insert, get-remove, same_map}
use Rattle.std.specs.Ordering.{nat_cmp, eq_by_cmp}
use Rattle.std.proofs.lemmas.Bool.{cases_eq}
use Rattle.std.proofs.lemmas.Bool.Decides.{Decides-eqb}
use Rattle.std.proofs.lemmas.Map.Lookups.{exact_unsigned}

pub tied_same : (k : ℕ) → eq_by_cmp nat_cmp k k ≡ true
tied_same k = unsigned_tied k k ∙ (Decides-eqb k k).1 refl

pub tied_other : (q k : ℕ) → q ≢ k → eq_by_cmp nat_cmp q k ≡ false
tied_other q k apart = unsigned_tied q k ∙ grind arith

module _ {X : Type 0} where
  pub get-insert_same : (m : FinMap nat_cmp X) (k : ℕ) (x : X) → get (insert m k x) k ≡ Some x
  get-insert_same m k x = get-insert nat_cmp_total m k x k ∙ ap (λ b. cond b (Some x) (get m k)) (tied_same k)

  pub get-insert_other : (m : FinMap nat_cmp X) (k : ℕ) (x : X) (q : ℕ) → q ≢ k → get (insert m k x) q ≡ get m q
  get-insert_other m k x q apart = get-insert nat_cmp_total m k x q ∙ ap (λ b. cond b (Some x) (get m q)) (tied_other q k apart)

  pub get-remove_same : (m : FinMap nat_cmp X) (k : ℕ) → get (remove m k) k ≡ None
  get-remove_same m k = get-remove nat_cmp_total m k k ∙ ap (λ b. cond b None (get m k)) (tied_same k)

  pub get-remove_other : (m : FinMap nat_cmp X) (k q : ℕ) → q ≢ k → get (remove m k) q ≡ get m q
  get-remove_other m k q apart = get-remove nat_cmp_total m k q ∙ ap (λ b. cond b None (get m q)) (tied_other q k apart)

  -- two maps that answer alike at one number, and alike at the others, are one
  same_by_cases : (m n : FinMap nat_cmp X) (k : ℕ) → get m k ≡ get n k → ((q : ℕ) → q ≢ k → get m q ≡ get n q) → m ≡ n
  same_by_cases m n k here others = same_map nat_cmp_total exact_unsigned m n (λ q.
      ⊎_elim (λ (e : q ≡ k). ap (get m) e ∙ here ∙ sym (ap (get n) e)) (λ (apart : q ≢ k). others q apart) (cases_eq q k))

  -- what is inserted last stays
  pub insert-insert : (m : FinMap nat_cmp X) (k : ℕ) (x y : X) → insert (insert m k x) k y ≡ insert m k y
  insert-insert m k x y = same_by_cases _ _ k
      (get-insert_same (insert m k x) k y ∙ sym (get-insert_same m k y))
      (λ q apart. get-insert_other (insert m k x) k y q apart ∙ get-insert_other m k x q apart ∙ sym (get-insert_other m k y q apart))

  -- to insert what is there changes nothing
  pub insert_there : (m : FinMap nat_cmp X) (k : ℕ) (x : X) → get m k ≡ Some x → insert m k x ≡ m
  insert_there m k x there = same_by_cases _ _ k (get-insert_same m k x ∙ sym there) (λ q apart. get-insert_other m k x q apart)

  -- to insert what was not there and remove it again changes nothing
  pub remove-insert : (m : FinMap nat_cmp X) (k : ℕ) (x : X) → get m k ≡ None → remove (insert m k x) k ≡ m
  remove-insert m k x absent = same_by_cases _ _ k
      (get-remove_same (insert m k x) k ∙ sym absent)
      (λ q apart. get-remove_other (insert m k x) k q apart ∙ get-insert_other m k x q apart)
