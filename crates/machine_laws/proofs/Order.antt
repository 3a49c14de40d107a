-- The order in which functions take turns, and how far one of them stands in it.
use Rattle.std.proofs.Common.{◌≡◌, ◌≢◌, ◌⊎◌, ℕ, zero, suc, ◌+◌, ◌-◌, ◌<◌, ◌≤◌, nat_lt, if◌then◌else◌, inl, inr, Bool, true, false, cond, Option, Some, None, refl, sym, ◌∙◌, subst, ⊎_elim, arith}
use Rattle.std.specs.List.{find, range_with_len}
use Rattle.std.specs.Option.{option_or}
use Rattle.std.proofs.lemmas.Bool.{both_ways, cases_eq, cases_lt, cond-false, cond-true, le-ltb, lt-ltb}
use Rattle.std.proofs.lemmas.List.Folds.{find-append}
use Rattle.std.proofs.lemmas.Option.{none-some, same_Some}
use Rattle.plain_machine.specs.Functions.{in_turn}

-- How far a function stands behind the one that was taken last: how many come before it.
abbrev pub distance : ℕ → ℕ → ℕ → ℕ
distance last count f = if nat_lt last f then f - (last + 1) else count - last + (f - 1)

distance_ahead : (last count f : ℕ) → last < f → distance last count f ≡ f - (last + 1)
distance_ahead last count f ahead = cond-true (nat_lt last f) _ _ (lt-ltb last f ahead)

distance_around : (last count f : ℕ) → f ≤ last → distance last count f ≡ count - last + (f - 1)
distance_around last count f around = cond-false (nat_lt last f) _ _ (le-ltb last f around)

-- fewer come before it than there are
pub distance_below : (last count f : ℕ) → 1 ≤ f → f ≤ count → distance last count f < count
distance_below last count f first within = elim (cases_lt last f) [
  | inl ahead ↦ omega (arith, distance_ahead last count f ahead)
  | inr around ↦ omega (arith, distance_around last count f around)
]

-- The first that passes

module _ (p : ℕ → Bool) where
  none_first : (a : ℕ) (rest : Option ℕ) (b : Bool) → p a ≡ b → cond b (Some a) rest ≡ None → (p a ≡ false) × (rest ≡ None)
  none_first a rest true passes none = absurd (none-some a (sym none))
  none_first a rest false fails none = (fails, none)

  -- where none of a range is found, each fails
  none_of_range : (a n : ℕ) → find p (range_with_len a n) ≡ None → (k : ℕ) → a ≤ k → k < a + n → p k ≡ false
  none_of_range a zero none k low high = absurd (omega arith)
  none_of_range a (suc n) none k low high =
      let parts = none_first a (find p (range_with_len (a + 1) n)) (p a) refl none in
      ⊎_elim (λ (same : k ≡ a). subst (λ (k : ℕ). p k ≡ false) (sym same) parts.0)
      (λ (apart : k ≢ a).
      let later : a + 1 ≤ k = omega arith in
      let within : k < a + 1 + n = omega arith in
      none_of_range (a + 1) n parts.1 k later within) (cases_eq k a)

  -- what is found of a range lies in it, and each before it fails
  record IsFirstOf (a n g : ℕ) : Type 0 where
    from : a ≤ g
    below : g < a + n
    passed : (k : ℕ) → a ≤ k → k < g → p k ≡ false

  first_found : (a n g : ℕ) (b : Bool) (rest : Option ℕ) → p a ≡ b → (rest ≡ Some g → IsFirstOf (a + 1) n g) → cond b (Some a) rest ≡ Some g
      → IsFirstOf a (suc n) g
  first_found a n g true rest passes later is =
      let same : a ≡ g = same_Some a g is in
      record { from = omega arith; below = omega arith; passed = λ k low high. absurd (omega arith) }
  first_found a n g false rest fails later is =
      let first = later is in
      record {
        from = omega (arith, first.from);
        below = omega (arith, first.below);
        passed = λ k low high.
            ⊎_elim (λ (same : k ≡ a). subst (λ (k : ℕ). p k ≡ false) (sym same) fails)
            (λ (apart : k ≢ a). let after : a + 1 ≤ k = omega arith in first.passed k after high) (cases_eq k a);
      }

  first_of_range : (a n g : ℕ) → find p (range_with_len a n) ≡ Some g → IsFirstOf a n g
  first_of_range a zero g is = absurd (none-some g is)
  first_of_range a (suc n) g is =
      first_found a n g (p a) (find p (range_with_len (a + 1) n)) refl (first_of_range (a + 1) n g) is

  -- the next of so many comes ahead of the last, before any other that passes
  record ComesAhead (last count g : ℕ) : Type 0 where
    above : last < g
    within : g ≤ count
    passed : (k : ℕ) → last < k → k < g → p k ≡ false

  -- or none ahead passes, and it comes from around, the last among these
  record ComesAround (last count g : ℕ) : Type 0 where
    first : 1 ≤ g
    upto : g ≤ last
    ahead : (k : ℕ) → last < k → k ≤ count → p k ≡ false
    passed : (k : ℕ) → 1 ≤ k → k < g → p k ≡ false

  module _ (last count : ℕ) where
    none_ahead : find p (range_with_len (last + 1) (count - last)) ≡ None → (k : ℕ) → last < k → k ≤ count → p k ≡ false
    none_ahead none k low high = none_of_range (last + 1) (count - last) none k (omega arith) (omega arith)

    comes : (g : ℕ) (found : Option ℕ) → find p (range_with_len (last + 1) (count - last)) ≡ found
        → option_or found (find p (range_with_len 1 last)) ≡ Some g → ComesAhead last count g ⊎ ComesAround last count g
    comes g None none is =
        let around = first_of_range 1 last g is in
        inr (record { first = around.from; upto = omega (arith, around.below); ahead = none_ahead none; passed = around.passed })
    comes g (Some n) some is =
        let ahead = first_of_range (last + 1) (count - last) g (some ∙ is) in
        inl (record {
          above = omega (arith, ahead.from);
          within = omega (arith, ahead.from, ahead.below);
          passed = λ k low high. ahead.passed k (omega arith) high;
        })

    next_comes : (g : ℕ) → find p (in_turn last count) ≡ Some g → ComesAhead last count g ⊎ ComesAround last count g
    next_comes g is =
        let front = range_with_len (last + 1) (count - last) in
        comes g (find p front) refl (sym (find-append p front (range_with_len 1 last)) ∙ is)

    -- One that passes comes nearer where another is taken.
    pub nearer : (g f : ℕ) → find p (in_turn last count) ≡ Some g → p f ≡ true → 1 ≤ f → f ≤ count → f ≢ g
        → distance g count f < distance last count f
    nearer g f next passes first within apart = elim (next_comes g next) [
      | inl ahead ↦ elim (cases_lt last f) [
        | inl above ↦ elim (cases_lt f g) [
          | inl before ↦ absurd (both_ways (p f) (ahead.passed f above before) passes)
          | inr behind ↦
              let after : g < f = omega arith in
              omega (arith, ahead.above, distance_ahead last count f above, distance_ahead g count f after)
        ]
        | inr upto ↦
            let before : f ≤ g = omega (arith, ahead.above) in
            omega (arith, ahead.above, ahead.within, distance_around last count f upto, distance_around g count f before)
      ]
      | inr around ↦ elim (cases_lt last f) [
        | inl above ↦ absurd (both_ways (p f) (around.ahead f above within) passes)
        | inr upto ↦ elim (cases_lt f g) [
          | inl before ↦ absurd (both_ways (p f) (around.passed f first before) passes)
          | inr behind ↦
              let after : g < f = omega arith in
              omega (arith, around.first, around.upto, distance_around last count f upto, distance_ahead g count f after)
        ]
      ]
    ]

    none_both : (first second : Option ℕ) → option_or first second ≡ None → (first ≡ None) × (second ≡ None)
    none_both None second none = (refl, none)
    none_both (Some n) second none = absurd (none-some n (sym none))

    -- where one passes, one is found
    pub never_none : (f : ℕ) → find p (in_turn last count) ≡ None → p f ≡ true → 1 ≤ f → f ≤ count → ⊥
    never_none f none passes first within =
        let front = range_with_len (last + 1) (count - last) in
        let back = range_with_len 1 last in
        let parts = none_both (find p front) (find p back) (sym (find-append p front back) ∙ none) in
        elim (cases_lt last f) [
          | inl above ↦ both_ways (p f) (none_ahead parts.0 f above within) passes
          | inr upto ↦ both_ways (p f) (none_of_range 1 last parts.1 f first (omega arith)) passes
        ]
