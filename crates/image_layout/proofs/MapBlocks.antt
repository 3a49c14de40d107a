-- What holds of the map blocks so far, and of one more.
use Rattle.std.proofs.Common.{◌≡◌, ℕ, ◌+◌, ◌*◌, ◌<◌, List, ◌++◌, inl, inr, length, take, drop, subst, sym, ap, ◌∙◌, arith, length-drop}
use Rattle.std.proofs.lemmas.Bool.{cases_lt}
use Rattle.std.proofs.lemmas.List.{drop-append-le, drop_at, take-append-le, take_all}

-- what holds of each 128 of a list holds with 128 more behind it
pub each_more : {X : Type 0} (P : ℕ → List X → Type 0) (b : ℕ) (xs found : List X) → length xs ≡ 128 * b → length found ≡ 128
    → ((c : ℕ) → c < b → P c (take 128 (drop (128 * c) xs))) → P b found
    → (c : ℕ) → c < b + 1 → P c (take 128 (drop (128 * c) (xs ++ found)))
each_more P b xs found count size each here c below =
    elim (cases_lt c b) [
      | inl before ↦
          let left : drop (128 * c) (xs ++ found) ≡ drop (128 * c) xs ++ found = drop-append-le (128 * c) xs found (omega arith) in
          let front : take 128 (drop (128 * c) xs ++ found) ≡ take 128 (drop (128 * c) xs) =
          take-append-le 128 (drop (128 * c) xs) found (omega (arith, length-drop (128 * c) xs)) in
          subst (P c) (sym (ap (take 128) left ∙ front)) (each c before)
      | inr last ↦
          let same : b ≡ c = omega arith in
          let all : take 128 (drop (128 * b) (xs ++ found)) ≡ found = ap (take 128) (drop_at xs found (128 * b) count) ∙ take_all 128 found (omega arith) in
          subst (λ n. P n (take 128 (drop (128 * n) (xs ++ found)))) same (subst (P b) (sym all) here)
    ]
