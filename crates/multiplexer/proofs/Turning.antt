-- The first of all functions in turn that passes a test.
use Rattle.std.proofs.Common.{◌≡◌, ℕ, zero, suc, ◌+◌, ◌-◌, ◌<◌, ◌≤◌, ◌≢◌, inl, inr, Bool, true, false, cond, Option, Some, None, List, length, MatchOption, option_map, bit_and, ◌^◌, ⊎_elim, arith, ap, refl, sym, ◌∙◌}
use Rattle.std.specs.List.{find, range_with_len}
use Rattle.std.specs.Option.{option_or}
use Rattle.std.proofs.lemmas.Bool.{cases_lt, cases_eq, both_ways}
use Rattle.std.proofs.lemmas.List.Folds.{find-append}
use Rattle.nesc_base.specs.declared.numbers.FnNo.{FnNo}
use Rattle.plain_machine.specs.Functions.{Function, in_turn, is_runnable, next_runnable}
use Rattle.multiplexer.specs.Turns.{AreRunnable, IsFirstAfter, IsNoneAfter, IsNoneSet, IsSetAmong, is_set, next_set}
use Rattle.multiplexer.proofs.Bits.{cut_inside, cut_past}

module _ (p : ℕ → Bool) where
  -- no number of a row passes
  none_of : (a n : ℕ) → ((k : ℕ) → a ≤ k → k < a + n → p k ≡ false) → find p (range_with_len a n) ≡ None
  none_of a zero none = refl
  none_of a (suc n) none =
      ap (λ b. cond b (Some a) (find p (range_with_len (a + 1) n))) (none a (omega arith) (omega arith))
      ∙ none_of (a + 1) n (λ k low high. none k (omega arith) (omega arith))

  -- the first that passes is found
  first_of : (a n f : ℕ) → a ≤ f → f < a + n → p f ≡ true → ((k : ℕ) → a ≤ k → k < f → p k ≡ false) → find p (range_with_len a n) ≡ Some f
  first_of a zero f low high passes first = absurd (omega arith)
  first_of a (suc n) f low high passes first =
      ⊎_elim (λ (same : f ≡ a).
      ap (λ b. cond b (Some a) (find p (range_with_len (a + 1) n))) (ap p (sym same) ∙ passes) ∙ ap Some (sym same))
      (λ (apart : f ≢ a).
      ap (λ b. cond b (Some a) (find p (range_with_len (a + 1) n))) (first a (omega arith) (omega arith))
      ∙ first_of (a + 1) n f (omega arith) (omega arith) passes (λ k above below. first k (omega arith) below)) (cases_eq f a)

  -- the same of all functions in turn: one after the last, or one up to it, or none
  turn_after : (last count f : ℕ) → last < f → f ≤ count → p f ≡ true → ((k : ℕ) → last < k → k < f → p k ≡ false) → find p (in_turn last count) ≡ Some f
  turn_after last count f after within passes first =
      find-append p (range_with_len (last + 1) (count - last)) (range_with_len 1 last)
      ∙ ap (λ o. option_or o (find p (range_with_len 1 last)))
      (first_of (last + 1) (count - last) f (omega arith) (omega arith) passes (λ k above below. first k (omega arith) below))

  none_ahead : (last count : ℕ) → ((k : ℕ) → last < k → k ≤ count → p k ≡ false) → find p (range_with_len (last + 1) (count - last)) ≡ None
  none_ahead last count none = none_of (last + 1) (count - last) (λ k low high. none k (omega arith) (omega arith))

  turn_around : (last count f : ℕ) → ((k : ℕ) → last < k → k ≤ count → p k ≡ false) → 1 ≤ f → f ≤ last → p f ≡ true
      → ((k : ℕ) → 1 ≤ k → k < f → p k ≡ false) → find p (in_turn last count) ≡ Some f
  turn_around last count f none some upto passes first =
      find-append p (range_with_len (last + 1) (count - last)) (range_with_len 1 last)
      ∙ ap (λ o. option_or o (find p (range_with_len 1 last))) (none_ahead last count none)
      ∙ first_of 1 last f some (omega arith) passes first

  turn_none : (last count : ℕ) → last ≤ count → ((k : ℕ) → 1 ≤ k → k ≤ count → p k ≡ false) → find p (in_turn last count) ≡ None
  turn_none last count within none =
      find-append p (range_with_len (last + 1) (count - last)) (range_with_len 1 last)
      ∙ ap (λ o. option_or o (find p (range_with_len 1 last))) (none_ahead last count (λ k low high. none k (omega arith) high))
      ∙ none_of 1 last (λ k low high. none k low (omega arith))

-- two tests that agree on a row find the same
same_of : (p q : ℕ → Bool) (a n : ℕ) → ((k : ℕ) → a ≤ k → k < a + n → p k ≡ q k) → find p (range_with_len a n) ≡ find q (range_with_len a n)
same_of p q a zero same = refl
same_of p q a (suc n) same = λ i. cond (same a (omega arith) (omega arith) i) (Some a) (same_of p q (a + 1) n (λ k low high. same k (omega arith) (omega arith)) i)

same_turn : (p q : ℕ → Bool) (last count : ℕ) → last ≤ count → ((k : ℕ) → 1 ≤ k → k ≤ count → p k ≡ q k)
    → find p (in_turn last count) ≡ find q (in_turn last count)
same_turn p q last count within same =
    find-append p (range_with_len (last + 1) (count - last)) (range_with_len 1 last)
    ∙ (λ i. option_or (same_of p q (last + 1) (count - last) (λ k low high. same k (omega arith) (omega arith)) i) (same_of p q 1 last (λ k low high. same k low (omega arith)) i))
    ∙ sym (find-append q (range_with_len (last + 1) (count - last)) (range_with_len 1 last))

-- where the bits say which functions are runnable, what is next by them is so in the machine
pub next_of_machine : (found : Option ℕ) (bits last count : ℕ) → last ≤ count → found ≡ next_set bits last count
    → (all : List Function) → length all ≡ count → AreRunnable bits all → found ≡ next_runnable all last
next_of_machine found bits last count within next all many same =
    next
    ∙ ap (next_set bits last) (sym many)
    ∙ same_turn (is_set bits) (is_runnable all) last (length all) (omega arith) same

-- A mask that is cut behind the last function
module _ (bits last count : ℕ) (within : last ≤ count) where
  abbrev among : ℕ
  among = bit_and bits (2 ^ count - 1)

  inside : (f : ℕ) → is_set among f ≡ true → f ≤ count
  inside f set = elim (cases_lt count f) [ inl past ↦ absurd (both_ways (is_set among f) (cut_past bits count f past) set) | inr upto ↦ upto ]

  as_set : (f : ℕ) → 1 ≤ f → f ≤ count → (b : Bool) → is_set among f ≡ b → is_set bits f ≡ b
  as_set f some upto b is = sym (cut_inside bits count f some upto) ∙ is

  -- the first after the last is next
  pub next_after : (f : ℕ) → IsFirstAfter last among f → Some f ≡ next_set bits last count
  next_after f is =
      let upto = inside f is.set in
      sym (turn_after (is_set bits) last count f is.after upto (as_set f (omega (arith, is.after)) upto true is.set)
      (λ k above below. as_set k (omega arith) (omega arith) false (is.first k above below)))

  set_among : (f : ℕ) → 1 ≤ f → is_set among f ≡ true → IsSetAmong bits count f
  set_among f some set =
      let upto = inside f set in
      record { first = some; last = upto; set = as_set f some upto true set }

  pub among_after : (f : ℕ) → IsFirstAfter last among f → IsSetAmong bits count f
  among_after f is = set_among f (omega (arith, is.after)) is.set

  -- or, where there is none, the first of all
  module _ (none : IsNoneAfter last among) where
    pub next_around : (o : Option FnNo) → MatchOption o (IsNoneAfter 0 among) (λ f. IsFirstAfter 0 among f.0)
        → option_map (λ (f : FnNo). f.0) o ≡ next_set bits last count
    next_around None all = sym (turn_none (is_set bits) last count within (λ k some upto. as_set k some upto false (all k (omega arith))))
    next_around (Some f) is =
        let upto = inside f.0 is.set in
        let before : f.0 ≤ last = elim (cases_lt last f.0) [ inl past ↦ absurd (both_ways (is_set among f.0) (none f.0 past) is.set) | inr here ↦ here ] in
        sym (turn_around (is_set bits) last count f.0 (λ k above below. as_set k (omega arith) below false (none k above)) (omega (arith, is.after)) before
        (as_set f.0 (omega (arith, is.after)) upto true is.set)
        (λ k some below. as_set k some (omega arith) false (is.first k (omega arith) below)))

  pub among_around : (o : Option FnNo) → MatchOption o (IsNoneAfter 0 among) (λ f. IsFirstAfter 0 among f.0)
      → MatchOption o (IsNoneSet bits count) (λ f. IsSetAmong bits count f.0)
  among_around None all = λ f some upto. as_set f some upto false (all f (omega arith))
  among_around (Some f) is = set_among f.0 (omega (arith, is.after)) is.set
