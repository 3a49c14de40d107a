-- The entries of places in order, and what each change of a place leaves of them.
use Rattle.std.proofs.Common.{◌≡◌, ◌⊎◌, inl, inr, ℕ, zero, suc, ◌+◌, ◌<◌, ◌≤◌, ◌==◌, not, cond, Bool, true, false, List, [], ◌∷◌, ◌++◌, length, take, map, get_or, nat_eq, nat_lt, replicate, Option, Some, None, option_map, refl, sym, ap, ◌∙◌, subst, arith}
use Rattle.std.specs.Prelude.{is_none, is_some, slice_set}
use Rattle.std.specs.List.{AllByRecursion, IsDistinct, cons_option, count_by, filter, list_any, position, position_or_len}
use Rattle.std.proofs.lemmas.Bool.{both_ways, cases_Bool, cases_eq, cases_lt, cond-false, cond-true, eqb-false, eqb-true, ltb-false, ltb-true, ne_eqb, not_from_false, not_from_true, or_cases}
use Rattle.std.proofs.lemmas.List.{get_or-replicate, get_or-set_other, get_or-set_same, get_or_past, length-replicate, length-set}
use Rattle.std.proofs.Math.ListN.{get_or-map}
use Rattle.std.proofs.Math.Seq.{take-append_seam}
use Rattle.std.proofs.lemmas.List.Elements.{recursion_from_All}
use Rattle.std.proofs.lemmas.List.Sums.{fails_before_first, passes_at_first, sum_by-cons, sum_by-set}
use Rattle.translation_model.specs.Translations.{Entry, found, is_of, overlap, translates}
use Rattle.translation_model.proofs.Lists.{all_like, any_none, filter_all, filter_behind, filter_here, find_behind, find_here}
use Rattle.translation_model.proofs.Translating.{both_overlap, overlap_flips}
use Rattle.btlb_cache.specs.declared.slots.Held.{Held}
use Rattle.btlb_cache.specs.Slots.{Has, Order, entries_at, entry_of, is_same, passes, slot_at, without}
use Rattle.btlb_cache.proofs.Orders.{has_behind, less, less_behind, less_here, others_less}

pub slot_cases : (slot : Option Held) → (slot ≡ None) ⊎ ((held : Held) × (slot ≡ Some held))
slot_cases None = inl refl
slot_cases (Some held) = inr (held, refl)

-- Searching the places

module _ {X : Type 0} (test : X → Bool) where
  pub position_at : (xs : List X) (k : ℕ) (d : X) → position test xs ≡ Some k → (k < length xs) × (test (get_or xs k d) ≡ true)
  position_at xs k d is =
      let first : ℕ = position_or_len test xs in
      elim (cases_Bool (nat_lt first (length xs))) [
        | inl within ↦ (
            let here : Some first ≡ Some k = sym (cond-true (nat_lt first (length xs)) (Some first) None within) ∙ is in
            let same : first ≡ k = cc in
            let below : first < length xs = ltb-true first (length xs) within in
            (subst (λ (n : ℕ). n < length xs) same below, subst (λ (n : ℕ). test (get_or xs n d) ≡ true) same (passes_at_first test xs d below)))
        | inr past ↦ (let there : None ≡ Some k = sym (cond-false (nat_lt first (length xs)) (Some first) None past) ∙ is in cc)
      ]

  pub position_none : (xs : List X) → position test xs ≡ None → AllByRecursion (λ x. test x ≡ false) xs
  position_none xs is =
      let first : ℕ = position_or_len test xs in
      elim (cases_Bool (nat_lt first (length xs))) [
        | inl within ↦ (let here : Some first ≡ None = sym (cond-true (nat_lt first (length xs)) (Some first) None within) ∙ is in cc)
        | inr past ↦ (
            let all = ltb-false first (length xs) past in
            recursion_from_All (λ x. test x ≡ false) xs (λ k d below. fails_before_first test xs k d (omega arith)))
      ]

  pub any_at : (xs : List X) (d : X) → list_any test xs ≡ true → (k : ℕ) × (k < length xs) × (test (get_or xs k d) ≡ true)
  any_at [] d is = cc
  any_at (x ∷ xs) d is = elim (or_cases (test x) (list_any test xs) is) [
    | inl here ↦ (0, omega arith, here)
    | inr there ↦ (let on = any_at xs d there in let within = on.1 in (suc on.0, omega arith, on.2))
  ]

-- where no place passes, none does past the end either
none_at : (test : Option Held → Bool) → test None ≡ false → (slots : List (Option Held)) → AllByRecursion (λ slot. test slot ≡ false) slots → (k : ℕ)
    → test (slot_at slots k) ≡ false
none_at test empty [] none k = empty
none_at test empty (slot ∷ slots) none zero = none.0
none_at test empty (slot ∷ slots) none (suc k) = none_at test empty slots none.1 k

-- The entries of places

module _ (slots : List (Option Held)) where
  pub entries_with : (one : ℕ × Unit {0}) (rest : Order) (held : Held) → slot_at slots one.0 ≡ Some held → entries_at slots (one ∷ rest) ≡ entry_of held ∷ entries_at slots rest
  entries_with one rest held is = ap (λ (slot : Option Held). cons_option (option_map entry_of slot) (entries_at slots rest)) is

  pub entries_skip : (one : ℕ × Unit {0}) (rest : Order) → slot_at slots one.0 ≡ None → entries_at slots (one ∷ rest) ≡ entries_at slots rest
  entries_skip one rest is = ap (λ (slot : Option Held). cons_option (option_map entry_of slot) (entries_at slots rest)) is

  same_slot : (place at : ℕ) (slot : Option Held) → nat_eq place at ≡ true → slot_at slots place ≡ slot → slot_at slots at ≡ slot
  same_slot place at slot same is = ap (slot_at slots) (sym (eqb-true place at same)) ∙ is

  all_rest : (P : Entry → Type 0) (one : ℕ × Unit {0}) (rest : Order) → AllByRecursion P (entries_at slots (one ∷ rest)) → AllByRecursion P (entries_at slots rest)
  all_rest P one rest all = elim (slot_cases (slot_at slots one.0)) [
    | inl none ↦ subst (AllByRecursion P) (entries_skip one rest none) all
    | inr some ↦ (subst (AllByRecursion P) (entries_with one rest some.0 some.1) all).1
  ]

  -- what holds of all entries holds of the one of a place
  pub all_among : (P : Entry → Type 0) (place : ℕ) (held : Held) (order : Order) → slot_at slots place ≡ Some held → Has place order
      → AllByRecursion P (entries_at slots order) → P (entry_of held)
  all_among P place held [] is has all = cc
  all_among P place held (one ∷ rest) is has all = elim (cases_Bool (nat_eq place one.0)) [
    | inl same ↦ (subst (AllByRecursion P) (entries_with one rest held (same_slot place one.0 (Some held) same is)) all).0
    | inr other ↦ all_among P place held rest is (has_behind place one rest other has) (all_rest P one rest all)
  ]

  -- where no place passes a test, no entry does
  pub none_passes : (test : Entry → Bool) → AllByRecursion (λ slot. passes test slot ≡ false) slots → (order : Order)
      → AllByRecursion (λ entry. test entry ≡ false) (entries_at slots order)
  none_passes test none [] = tt
  none_passes test none (one ∷ rest) = elim (slot_cases (slot_at slots one.0)) [
    | inl empty ↦ subst (AllByRecursion (λ entry. test entry ≡ false)) (sym (entries_skip one rest empty)) (none_passes test none rest)
    | inr some ↦ subst (AllByRecursion (λ entry. test entry ≡ false)) (sym (entries_with one rest some.0 some.1))
        (ap (passes test) (sym some.1) ∙ none_at (passes test) refl slots none one.0, none_passes test none rest)
  ]

  -- where the entry of a place passes a test, one of all does
  pub any_passes : (test : Entry → Bool) (place : ℕ) (held : Held) (order : Order) → slot_at slots place ≡ Some held → test (entry_of held) ≡ true → Has place order
      → list_any test (entries_at slots order) ≡ true
  any_passes test place held order is pass has = elim (cases_Bool (list_any test (entries_at slots order))) [
    | inl any ↦ any
    | inr none ↦ absurd (both_ways (test (entry_of held)) (all_among (λ entry. test entry ≡ false) place held order is has (any_none test (entries_at slots order) none)) pass)
  ]

  -- the entry of a place, which has a block, and the entries of the other places
  pub record Apart (f v place : ℕ) (held : Held) (order : Order) : Type 0 where
    pub here : found f v (entries_at slots order) ≡ Some (entry_of held)
    pub others : filter (λ other. not (translates f v other)) (entries_at slots order) ≡ entries_at slots (less place order)

  module _ (f v place : ℕ) (held : Held) (is : slot_at slots place ≡ Some held) (pass : translates f v (entry_of held) ≡ true) where
    -- an entry that does not overlap with it does not have the block
    does_not : (other : Entry) → overlap (entry_of held) other ≡ false → translates f v other ≡ false
    does_not other apart = elim (cases_Bool (translates f v other)) [
      | inl too ↦ absurd (both_ways (overlap (entry_of held) other) apart (both_overlap f v (entry_of held) other pass too))
      | inr fail ↦ fail
    ]

    apart_first : (one : ℕ × Unit {0}) (rest : Order) → nat_eq place one.0 ≡ true → IsDistinct overlap (entries_at slots (one ∷ rest)) → Apart f v place held (one ∷ rest)
    unfolding IsDistinct
    apart_first one rest same apart =
        let stays : Entry → Bool = λ other. not (translates f v other) in
        let entries = entries_with one rest held (same_slot place one.0 (Some held) same is) in
        let apart' = (subst (IsDistinct overlap) entries apart).0 in
        let none = all_like (λ other. overlap (entry_of held) other ≡ false) (λ other. stays other ≡ true)
        (λ other away. not_from_false (translates f v other) (does_not other away)) (entries_at slots rest) apart' in
        record {
          here = ap (found f v) entries ∙ find_here (translates f v) (entry_of held) (entries_at slots rest) pass;
          others = ap (filter stays) entries ∙ filter_behind stays (entry_of held) (entries_at slots rest) (not_from_true (translates f v (entry_of held)) pass)
              ∙ filter_all stays (entries_at slots rest) none ∙ ap (entries_at slots) (sym (less_here place one rest same));
        }

    apart_skip : (one : ℕ × Unit {0}) (rest : Order) → nat_eq place one.0 ≡ false → slot_at slots one.0 ≡ None → Apart f v place held rest → Apart f v place held (one ∷ rest)
    apart_skip one rest other empty behind =
        let stays : Entry → Bool = λ entry. not (translates f v entry) in
        let entries = entries_skip one rest empty in
        record {
          here = ap (found f v) entries ∙ behind.here;
          others = ap (filter stays) entries ∙ behind.others ∙ sym (entries_skip one (less place rest) empty) ∙ ap (entries_at slots) (sym (less_behind place one rest other));
        }

    apart_behind : (one : ℕ × Unit {0}) (rest : Order) (first : Held) → nat_eq place one.0 ≡ false → slot_at slots one.0 ≡ Some first → translates f v (entry_of first) ≡ false
        → Apart f v place held rest → Apart f v place held (one ∷ rest)
    apart_behind one rest first other some fail behind =
        let stays : Entry → Bool = λ entry. not (translates f v entry) in
        let entries = entries_with one rest first some in
        record {
          here = ap (found f v) entries ∙ find_behind (translates f v) (entry_of first) (entries_at slots rest) fail ∙ behind.here;
          others = ap (filter stays) entries ∙ filter_here stays (entry_of first) (entries_at slots rest) (not_from_false (translates f v (entry_of first)) fail)
              ∙ ap (λ (those : List Entry). entry_of first ∷ those) behind.others ∙ sym (entries_with one (less place rest) first some)
              ∙ ap (entries_at slots) (sym (less_behind place one rest other));
        }

    pub apart_at : (order : Order) → Has place order → IsDistinct overlap (entries_at slots order) → Apart f v place held order
    unfolding IsDistinct
    apart_at [] has apart = cc
    apart_at (one ∷ rest) has apart = elim (cases_Bool (nat_eq place one.0)) [
      | inl same ↦ apart_first one rest same apart
      | inr other ↦ (
          let has' = has_behind place one rest other has in
          elim (slot_cases (slot_at slots one.0)) [
            | inl empty ↦ apart_skip one rest other empty (apart_at rest has' (subst (IsDistinct overlap) (entries_skip one rest empty) apart))
            | inr some ↦ (
                let both = subst (IsDistinct overlap) (entries_with one rest some.0 some.1) apart in
                let away = all_among (λ entry. overlap (entry_of some.0) entry ≡ false) place held rest is has' both.0 in
                let fail = does_not (entry_of some.0) (overlap_flips (entry_of held) (entry_of some.0) ∙ away) in
                apart_behind one rest some.0 other some.1 fail (apart_at rest has' both.1))
          ])
    ]

-- What is put at a place

module _ (slots : List (Option Held)) where
  pub entries_like : (after : List (Option Held)) (order : Order) → AllByRecursion (λ one. slot_at after one.0 ≡ slot_at slots one.0) order
      → entries_at after order ≡ entries_at slots order
  entries_like after [] same = refl
  entries_like after (one ∷ rest) same =
      ap (λ (slot : Option Held). cons_option (option_map entry_of slot) (entries_at after rest)) same.0
      ∙ ap (λ (those : List Entry). cons_option (option_map entry_of (slot_at slots one.0)) those) (entries_like after rest same.1)

  pub entries_set : (place : ℕ) (slot : Option Held) (order : Order) → AllByRecursion (λ one. nat_eq place one.0 ≡ false) order
      → entries_at (slice_set slots place slot) order ≡ entries_at slots order
  entries_set place slot order others =
      entries_like (slice_set slots place slot) order
      (all_like (λ one. nat_eq place one.0 ≡ false) (λ one. slot_at (slice_set slots place slot) one.0 ≡ slot_at slots one.0)
      (λ one other. get_or-set_other slots place one.0 slot None (λ same. eqb-false place one.0 other (sym same))) order others)

  -- the entry that is put comes first, and behind it those of the other places
  pub entries_put : (place : ℕ) (held : Held) (order : Order) → place < length slots → Has place order → IsDistinct is_same order
      → entries_at (slice_set slots place (Some held)) ((place, tt) ∷ less place order) ≡ entry_of held ∷ entries_at slots (less place order)
  entries_put place held order within has apart =
      entries_with (slice_set slots place (Some held)) (place, tt) (less place order) held (get_or-set_same slots place (Some held) None within)
      ∙ ap (λ (those : List Entry). entry_of held ∷ those) (entries_set place (Some held) (less place order) (others_less place order apart has))

  -- a place with no entry can go
  pub entries_unused : (place : ℕ) (order : Order) → slot_at slots place ≡ None → entries_at slots (less place order) ≡ entries_at slots order
  entries_unused place [] empty = refl
  entries_unused place (one ∷ rest) empty = elim (cases_Bool (nat_eq place one.0)) [
    | inl same ↦ ap (entries_at slots) (less_here place one rest same) ∙ sym (entries_skip slots one rest (same_slot slots place one.0 None same empty))
    | inr other ↦ ap (entries_at slots) (less_behind place one rest other)
        ∙ ap (λ (those : List Entry). cons_option (option_map entry_of (slot_at slots one.0)) those) (entries_unused place rest empty)
  ]

  pub length_entries : (order : Order) → length (entries_at slots order) ≤ length order
  length_entries [] = omega arith
  length_entries (one ∷ rest) = let fewer = length_entries rest in elim (slot_cases (slot_at slots one.0)) [
    | inl empty ↦ (let same = ap length (entries_skip slots one rest empty) in omega arith)
    | inr some ↦ (let more = ap length (entries_with slots one rest some.0 some.1) in omega arith)
  ]

  -- where each place has an entry, the first places have the first entries
  pub entries_take : (n : ℕ) (order : Order) → AllByRecursion (λ one. is_none (slot_at slots one.0) ≡ false) order → entries_at slots (take n order) ≡ take n (entries_at slots order)
  entries_take zero order used = refl
  entries_take (suc n) [] used = refl
  entries_take (suc n) (one ∷ rest) used = elim (slot_cases (slot_at slots one.0)) [
    | inl empty ↦ absurd (both_ways (is_none (slot_at slots one.0)) used.0 (ap is_none empty))
    | inr some ↦ entries_with slots one (take n rest) some.0 some.1 ∙ ap (λ (those : List Entry). entry_of some.0 ∷ those) (entries_take n rest used.1)
        ∙ ap (take (suc n)) (sym (entries_with slots one rest some.0 some.1))
  ]

-- What goes

slot_without : (f : ℕ) (slots : List (Option Held)) (place : ℕ) (slot : Option Held) → slot_at slots place ≡ slot → slot_at (map (without f) slots) place ≡ without f slot
slot_without f slots place slot is = get_or-map (without f) slots place None ∙ ap (without f) is

pub entries_without : (f : ℕ) (slots : List (Option Held)) (order : Order)
    → entries_at (map (without f) slots) order ≡ filter (λ entry. not (is_of f entry)) (entries_at slots order)
entries_without f slots [] = refl
entries_without f slots (one ∷ rest) =
    let stays : Entry → Bool = λ entry. not (is_of f entry) in
    let after : List (Option Held) = map (without f) slots in
    let behind = entries_without f slots rest in
    elim (slot_cases (slot_at slots one.0)) [
      | inl empty ↦ entries_skip after one rest (slot_without f slots one.0 None empty) ∙ behind ∙ ap (filter stays) (sym (entries_skip slots one rest empty))
      | inr some ↦ (
          let there = slot_without f slots one.0 (Some some.0) some.1 in
          let before = ap (filter stays) (sym (entries_with slots one rest some.0 some.1)) in
          elim (cases_Bool (some.0.function.0 == f)) [
            | inl own ↦ entries_skip after one rest (there ∙ cond-true (some.0.function.0 == f) None (Some some.0) own) ∙ behind
                ∙ sym (filter_behind stays (entry_of some.0) (entries_at slots rest) (not_from_true (some.0.function.0 == f) own)) ∙ before
            | inr other ↦ entries_with after one rest some.0 (there ∙ cond-false (some.0.function.0 == f) None (Some some.0) other)
                ∙ ap (λ (those : List Entry). entry_of some.0 ∷ those) behind
                ∙ sym (filter_here stays (entry_of some.0) (entries_at slots rest) (not_from_false (some.0.function.0 == f) other)) ∙ before
          ])
    ]

none_of : (n k : ℕ) → slot_at (replicate n None) k ≡ None
none_of n k = elim (cases_lt k n) [
  | inl within ↦ get_or-replicate n k None None within
  | inr past ↦ get_or_past (replicate n None) k None (omega (arith, length-replicate {A = Option Held} n None))
]

pub entries_none : (n : ℕ) (order : Order) → entries_at (replicate n None) order ≡ []
entries_none n [] = refl
entries_none n (one ∷ rest) = entries_skip (replicate n None) one rest (none_of n one.0) ∙ entries_none n rest

-- How many there are

count_none : (slots : List (Option Held)) → ((place : ℕ) → place < length slots → slot_at slots place ≡ None) → count_by is_some slots ≡ 0
count_none [] none = refl
count_none (slot ∷ slots) none =
    let first : cond {A = ℕ} (is_some slot) 1 0 ≡ 0 = ap (λ (one : Option Held). cond (is_some one) 1 0) (none 0 (omega arith)) in
    let rest : count_by is_some slots ≡ 0 = count_none slots (λ place within. none (suc place) (omega arith)) in
    let sum : count_by is_some (slot ∷ slots) ≡ cond {A = ℕ} (is_some slot) 1 0 + count_by is_some slots = sum_by-cons (λ (one : Option Held). cond (is_some one) 1 0) slot slots in
    omega arith

-- of the places that have entries each stands in the order, so there are as many as entries
pub count_entries : (order : Order) (slots : List (Option Held)) → AllByRecursion (λ one. one.0 < length slots) order → IsDistinct is_same order
    → ((place : ℕ) → place < length slots → (slot_at slots place ≡ None) ⊎ Has place order) → count_by is_some slots ≡ length (entries_at slots order)
unfolding IsDistinct
count_entries [] slots within apart has =
    count_none slots (λ place below. elim (has place below) [ inl none ↦ none | inr there ↦ (let no : None ≡ Some (place, tt) = there in cc) ])
count_entries (one ∷ rest) slots within apart has =
    let after : List (Option Held) = slice_set slots one.0 None in
    let long = length-set slots one.0 None in
    let below : AllByRecursion (λ two. two.0 < length after) rest =
    all_like (λ two. two.0 < length slots) (λ two. two.0 < length after) (λ two less. omega arith) rest within.1 in
    let still : (place : ℕ) → place < length after → (slot_at after place ≡ None) ⊎ Has place rest = λ place less.
    elim (cases_eq place one.0) [
      | inl same ↦ inl (ap (slot_at after) same ∙ get_or-set_same slots one.0 None None within.0)
      | inr other ↦ elim (has place (omega arith)) [
        | inl none ↦ inl (get_or-set_other slots one.0 place None None other ∙ none)
        | inr there ↦ inr (has_behind place one rest (ne_eqb place one.0 other) there)
      ]
    ] in
    let counts = count_entries rest after below apart.1 still in
    let same = ap length (entries_set slots one.0 None rest apart.0) in
    let summed = sum_by-set (λ (slot : Option Held). cond (is_some slot) 1 0) slots one.0 None None within.0 in
    elim (slot_cases (slot_at slots one.0)) [
      | inl empty ↦ (
          let entries = ap length (entries_skip slots one rest empty) in
          let there : cond {A = ℕ} (is_some (slot_at slots one.0)) 1 0 ≡ 0 = ap (λ (slot : Option Held). cond (is_some slot) 1 0) empty in
          omega arith)
      | inr some ↦ (
          let entries = ap length (entries_with slots one rest some.0 some.1) in
          let there : cond {A = ℕ} (is_some (slot_at slots one.0)) 1 0 ≡ 1 = ap (λ (slot : Option Held). cond (is_some slot) 1 0) some.1 in
          omega arith)
    ]

pub none_there : (slot : Option Held) → is_none slot ≡ true → slot ≡ None
none_there None is = refl
none_there (Some held) is = cc

pub slot_of : (slots : List (Option Held)) (place : ℕ) (slot : Option Held) → place < length slots → slot ≡ get_or slots place slot → slot_at slots place ≡ slot
slot_of [] place slot within is = absurd (omega arith)
slot_of (first ∷ slots) zero slot within is = sym is
slot_of (first ∷ slots) (suc place) slot within is = slot_of slots place slot (omega arith) is

-- a list that was written whole
pub whole : (n : ℕ) (old new rest : List (Option Held)) → length old ≡ n → length new ≡ length old → take n (new ++ rest) ≡ new
whole n old new rest long same = ap (λ (k : ℕ). take k (new ++ rest)) (sym (same ∙ long)) ∙ take-append_seam new rest

pub read_again : (slots : List (Option Held)) (place : ℕ) → slot_at slots place ≡ get_or slots place (slot_at slots place)
read_again [] place = refl
read_again (slot ∷ slots) zero = refl
read_again (slot ∷ slots) (suc place) = read_again slots place
