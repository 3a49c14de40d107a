-- Lists: what a filter, the front of a list, and the first that passes a test have of it.
use Rattle.std.proofs.Common.{◌≡◌, inl, inr, ℕ, zero, suc, ◌<◌, ◌≤◌, Bool, true, false, not, List, [], ◌∷◌, length, take, Contains, Some, None, refl, sym, ap, ◌∙◌, subst, arith}
use Rattle.std.specs.Prelude.{slice_get}
use Rattle.std.specs.List.{AllByRecursion, IsDistinct, filter, find, list_any}
use Rattle.std.proofs.lemmas.List.Elements.{All-contains, All-contains_itself, All-from_recursion, recursion_from_All}
use Rattle.std.proofs.lemmas.Bool.{both_ways, cases_Bool, cond_both, cond-true, cond-false, or_from, or_parts, not_from_true, not_from_false}

module _ {X : Type 0} where
  -- What holds of each

  module _ (P : X → Type 0) where
    pub all_filter : (test : X → Bool) (xs : List X) → AllByRecursion P xs → AllByRecursion P (filter test xs)
    all_filter test [] all = tt
    all_filter test (x ∷ xs) all =
        cond_both (test x) (x ∷ filter test xs) (filter test xs) (AllByRecursion P) (λ pass. (all.0, all_filter test xs all.1)) (λ fail. all_filter test xs all.1)

    pub all_take : (n : ℕ) (xs : List X) → AllByRecursion P xs → AllByRecursion P (take n xs)
    all_take zero xs all = tt
    all_take (suc n) [] all = tt
    all_take (suc n) (x ∷ xs) all = (all.0, all_take n xs all.1)

    pub all_at : (xs : List X) (k : ℕ) (x : X) → AllByRecursion P xs → slice_get xs k ≡ Some x → P x
    all_at [] k x all is = cc
    all_at (y ∷ ys) zero x all is = (let here : y ≡ x = cc in subst P here all.0)
    all_at (y ∷ ys) (suc k) x all is = all_at ys k x all.1 is

    pub all_like : (Q : X → Type 0) → ((x : X) → P x → Q x) → (xs : List X) → AllByRecursion P xs → AllByRecursion Q xs
    all_like Q so [] all = tt
    all_like Q so (x ∷ xs) all = (so x all.0, all_like Q so xs all.1)

  -- The first that passes

  module _ (test : X → Bool) where
    pub find_here : (y : X) (ys : List X) → test y ≡ true → find test (y ∷ ys) ≡ Some y
    find_here y ys pass = cond-true (test y) (Some y) (find test ys) pass

    pub find_behind : (y : X) (ys : List X) → test y ≡ false → find test (y ∷ ys) ≡ find test ys
    find_behind y ys fail = cond-false (test y) (Some y) (find test ys) fail

    -- it passes, and what holds of each holds of it
    pub find_all : (P : X → Type 0) (xs : List X) (x : X) → AllByRecursion P xs → find test xs ≡ Some x → P x × (test x ≡ true)
    find_all P [] x all is = cc
    find_all P (y ∷ ys) x all is = elim (cases_Bool (test y)) [
      | inl pass ↦ (let here : y ≡ x = (let first = find_here y ys pass in cc) in (subst P here all.0, subst (λ z. test z ≡ true) here pass))
      | inr fail ↦ find_all P ys x all.1 (sym (find_behind y ys fail) ∙ is)
    ]

    pub find_none : (xs : List X) → AllByRecursion (λ x. test x ≡ false) xs → find test xs ≡ None
    find_none [] none = refl
    find_none (x ∷ xs) none = find_behind x xs none.0 ∙ find_none xs none.1

    pub none_found : (xs : List X) → find test xs ≡ None → AllByRecursion (λ x. test x ≡ false) xs
    none_found [] is = tt
    none_found (x ∷ xs) is = elim (cases_Bool (test x)) [
      | inl pass ↦ (let first = find_here x xs pass in cc)
      | inr fail ↦ (fail, none_found xs (sym (find_behind x xs fail) ∙ is))
    ]

    pub filter_here : (y : X) (ys : List X) → test y ≡ true → filter test (y ∷ ys) ≡ y ∷ filter test ys
    filter_here y ys pass = cond-true (test y) (y ∷ filter test ys) (filter test ys) pass

    pub filter_behind : (y : X) (ys : List X) → test y ≡ false → filter test (y ∷ ys) ≡ filter test ys
    filter_behind y ys fail = cond-false (test y) (y ∷ filter test ys) (filter test ys) fail

    pub filter_passing : (xs : List X) → AllByRecursion (λ x. test x ≡ true) (filter test xs)
    filter_passing [] = tt
    filter_passing (x ∷ xs) =
        cond_both (test x) (x ∷ filter test xs) (filter test xs) (AllByRecursion (λ y. test y ≡ true)) (λ pass. (pass, filter_passing xs)) (λ fail. filter_passing xs)

    pub filter_all : (xs : List X) → AllByRecursion (λ x. test x ≡ true) xs → filter test xs ≡ xs
    filter_all [] all = refl
    filter_all (x ∷ xs) all = filter_here x xs all.0 ∙ ap (λ ys. x ∷ ys) (filter_all xs all.1)

    pub length_filter : (xs : List X) → length (filter test xs) ≤ length xs
    length_filter [] = omega arith
    length_filter (x ∷ xs) =
        let fewer = length_filter xs in
        cond_both (test x) (x ∷ filter test xs) (filter test xs) (λ ys. length ys ≤ length (x ∷ xs)) (λ pass. omega arith) (λ fail. omega arith)

    -- whether one passes
    pub any_none : (xs : List X) → list_any test xs ≡ false → AllByRecursion (λ x. test x ≡ false) xs
    any_none [] none = tt
    any_none (x ∷ xs) none = let parts = or_parts (test x) (list_any test xs) none in (parts.0, any_none xs parts.1)

    pub none_any : (xs : List X) → AllByRecursion (λ x. test x ≡ false) xs → list_any test xs ≡ false
    none_any [] none = refl
    none_any (x ∷ xs) none = or_from (test x) (list_any test xs) none.0 (none_any xs none.1)

  -- where one is found, those that do not pass are fewer
  pub length_others : (test : X → Bool) (xs : List X) (x : X) → find test xs ≡ Some x → length (filter (λ y. not (test y)) xs) < length xs
  length_others test [] x is = cc
  length_others test (y ∷ ys) x is = elim (cases_Bool (test y)) [
    | inl pass ↦ (let fewer = length_filter (λ z. not (test z)) ys in let gone = ap length (filter_behind (λ z. not (test z)) y ys (not_from_true (test y) pass)) in omega arith)
    | inr fail ↦ (
        let fewer = length_others test ys x (sym (find_behind test y ys fail) ∙ is) in
        let stays = ap length (filter_here (λ z. not (test z)) y ys (not_from_false (test y) fail)) in
        omega arith)
  ]

  -- what passes is found also among those that stay, where all that pass stay
  pub find_filter : (test stays : X → Bool) → ((x : X) → test x ≡ true → stays x ≡ true) → (xs : List X) → find test (filter stays xs) ≡ find test xs
  find_filter test stays so [] = refl
  find_filter test stays so (x ∷ xs) = elim (cases_Bool (test x)) [
    | inl pass ↦ ap (find test) (filter_here stays x xs (so x pass)) ∙ find_here test x (filter stays xs) pass ∙ sym (find_here test x xs pass)
    | inr fail ↦ elim (cases_Bool (stays x)) [
      | inl kept ↦ ap (find test) (filter_here stays x xs kept) ∙ find_behind test x (filter stays xs) fail ∙ find_filter test stays so xs ∙ sym (find_behind test x xs fail)
      | inr gone ↦ ap (find test) (filter_behind stays x xs gone) ∙ find_filter test stays so xs ∙ sym (find_behind test x xs fail)
    ]
  ]

  pub length_take : (n : ℕ) (xs : List X) → length (take n xs) ≤ n
  length_take zero xs = omega arith
  length_take (suc n) [] = omega arith
  length_take (suc n) (x ∷ xs) = let fewer = length_take n xs in omega arith

  -- Where no two are alike

  module _ (alike : X → X → Bool) where
    pub distinct_filter : (test : X → Bool) (xs : List X) → IsDistinct alike xs → IsDistinct alike (filter test xs)
    unfolding IsDistinct
    distinct_filter test [] apart = tt
    distinct_filter test (x ∷ xs) apart =
        cond_both (test x) (x ∷ filter test xs) (filter test xs) (IsDistinct alike)
        (λ pass. (all_filter (λ y. alike x y ≡ false) test xs apart.0, distinct_filter test xs apart.1)) (λ fail. distinct_filter test xs apart.1)

    pub distinct_take : (n : ℕ) (xs : List X) → IsDistinct alike xs → IsDistinct alike (take n xs)
    unfolding IsDistinct
    distinct_take zero xs apart = tt
    distinct_take (suc n) [] apart = tt
    distinct_take (suc n) (x ∷ xs) apart = (all_take (λ y. alike x y ≡ false) n xs apart.0, distinct_take n xs apart.1)

    -- two places whose elements are alike are one
    pub distinct_at : ((x y : X) → alike x y ≡ alike y x) → (xs : List X) (j k : ℕ) (x y : X) → IsDistinct alike xs → slice_get xs j ≡ Some x → slice_get xs k ≡ Some y
        → alike x y ≡ true → j ≡ k
    unfolding IsDistinct
    distinct_at flips [] j k x y apart here there so = cc
    distinct_at flips (z ∷ zs) zero zero x y apart here there so = refl
    distinct_at flips (z ∷ zs) zero (suc k) x y apart here there so =
        let is : z ≡ x = cc in
        absurd (both_ways (alike x y) (subst (λ w. alike w y ≡ false) is (all_at (λ w. alike z w ≡ false) zs k y apart.0 there)) so)
    distinct_at flips (z ∷ zs) (suc j) zero x y apart here there so =
        let is : z ≡ y = cc in
        absurd (both_ways (alike y x) (subst (λ w. alike w x ≡ false) is (all_at (λ w. alike z w ≡ false) zs j x apart.0 here)) (flips y x ∙ so))
    distinct_at flips (z ∷ zs) (suc j) (suc k) x y apart here there so = ap suc (distinct_at flips zs j k x y apart.1 here there so)

  -- What is in a list

  pub contained_of_all : (P : X → Type 0) (xs : List X) (x : X) → AllByRecursion P xs → Contains xs x → P x
  contained_of_all P xs x all among = All-contains P xs x (All-from_recursion P xs all) among

  pub all_contained : (xs : List X) → AllByRecursion (Contains xs) xs
  all_contained xs = recursion_from_All (Contains xs) xs (All-contains_itself xs)
