-- What each call does to the cache that is kept.
use Rattle.std.proofs.Common.{◌≡◌, inl, inr, ℕ, zero, suc, ◌-◌, ◌<◌, ◌≤◌, Bool, true, false, List, [], ◌∷◌, length, take, map, nat_eq, replicate, Option, Some, None, option_map, sym, ap, ◌∙◌, subst, arith}
use Rattle.std.specs.Prelude.{is_none, is_some, slice_set}
use Rattle.std.specs.List.{AllByRecursion, count_by, list_any, position}
use Rattle.std.specs.Option.{option_map_or}
use Rattle.std.proofs.lemmas.Bool.{cond-false, cond-true}
use Rattle.std.proofs.lemmas.List.{length-map, length-replicate, length-set, take_all}
use Rattle.lru.specs.LruCache.{promoted}
use Rattle.nesc_base.specs.Runs.{IsRun}
use Rattle.translation_model.specs.Translations.{Cache, Entry, IsCache, after_clear, after_forget, after_keep, after_look, empty_cache, found, found_place, in_front, overlap, place_of, translates}
use Rattle.translation_model.proofs.Lists.{all_like, any_none, find_none, none_any}
use Rattle.translation_model.proofs.Translating.{Translates, clear_leaves, empty_is, forget_leaves, keep_leaves, look_leaves, what_translates}
use Rattle.btlb_cache.specs.declared.slots.Held.{Held}
use Rattle.btlb_cache.specs.Slots.{AllUsed, Has, IsKept, IsNext, IsOrder, Order, cache_of, entries_at, entry_of, passes, slot_at, without}
use Rattle.btlb_cache.proofs.Orders.{in_front as order_in_front, length_less, less, oldest_goes, order_used}
use Rattle.btlb_cache.proofs.Placed.{all_among, any_at, any_passes, apart_at, count_entries, entries_none, entries_put, entries_take, entries_unused, entries_with, entries_without, length_entries, none_passes, position_at, position_none, slot_cases}

abbrev cache : List Entry → ℕ → Cache
cache entries capacity = record { entries = entries; capacity = capacity }

all_used : (slots : List (Option Held)) → AllUsed slots → (place : ℕ) → place < length slots → is_none (slot_at slots place) ≡ false
all_used [] used place within = absurd (omega arith)
all_used (slot ∷ slots) used zero within = used.0
all_used (slot ∷ slots) used (suc place) within = all_used slots used.1 place (omega arith)

none_overlaps : (slots : List (Option Held)) (order : Order) (test : Entry → Bool) → list_any (passes test) slots ≡ false → list_any test (entries_at slots order) ≡ false
none_overlaps slots order test none = none_any test (entries_at slots order) (none_passes slots test (any_none (passes test) slots none) order)

module _ (slots : List (Option Held)) (order : Order) (kept : IsKept slots order) where
  -- Looking

  module _ (f v place : ℕ) (held : Held) (at : position (passes (translates f v)) slots ≡ Some place) (there : slot_at slots place ≡ Some held) where
    within : place < length slots
    within = (position_at (passes (translates f v)) slots place None at).0

    has : Has place order
    has = kept.ordered.each place within

    pass : translates f v (entry_of held) ≡ true
    pass = ap (passes (translates f v)) (sym there) ∙ (position_at (passes (translates f v)) slots place None at).1

    pub look_finds : found f v (entries_at slots order) ≡ Some (entry_of held)
    look_finds = (apart_at slots f v place held there pass order has kept.is.apart).here

    pub look_place : found_place f v (entries_at slots order) ≡ Some (place_of v held.run)
    look_place = ap (option_map (λ (entry : Entry). place_of v entry.run)) look_finds

    -- the block is in the run, and where it stands is a number of blocks
    pub look_translates : Translates f v (entry_of held)
    look_translates = what_translates f v (entry_of held) pass

    pub look_run : IsRun held.run
    look_run = all_among slots (λ (entry : Entry). IsRun entry.run) place held order there has kept.is.runs

    look_entries : entries_at slots (promoted (nat_eq place) order) ≡ in_front f v (entries_at slots order) (entry_of held)
    look_entries =
        ap (entries_at slots) (order_in_front place order has) ∙ entries_with slots (place, tt) (less place order) held there
        ∙ ap (λ (those : List Entry). entry_of held ∷ those) (sym (apart_at slots f v place held there pass order has kept.is.apart).others)

    pub look_after : cache_of slots (promoted (nat_eq place) order) ≡ after_look f v (cache_of slots order)
    look_after =
        ap (λ (entries : List Entry). cache entries (length slots))
        (look_entries ∙ ap (λ (result : Option Entry). option_map_or (in_front f v (entries_at slots order)) result (entries_at slots order)) (sym look_finds))

    pub look_kept : IsKept slots (promoted (nat_eq place) order)
    look_kept = record {
      is = subst IsCache (sym look_after) (look_leaves f v (cache_of slots order) kept.is);
      some = kept.some;
      few = kept.few;
      ordered = order_used (length slots) place order kept.ordered within;
    }

  module _ (f v : ℕ) (none : position (passes (translates f v)) slots ≡ None) where
    pub look_misses : found f v (entries_at slots order) ≡ None
    look_misses = find_none (translates f v) (entries_at slots order) (none_passes slots (translates f v) (position_none (passes (translates f v)) slots none) order)

    pub miss_place : found_place f v (entries_at slots order) ≡ None
    miss_place = ap (option_map (λ (entry : Entry). place_of v entry.run)) look_misses

    pub miss_after : cache_of slots order ≡ after_look f v (cache_of slots order)
    miss_after =
        ap (λ (result : Option Entry). record { entries = option_map_or (in_front f v (entries_at slots order)) result (entries_at slots order); capacity = length slots }) (sym look_misses)

  -- a place that was found has an entry
  pub found_used : (f v place : ℕ) → position (passes (translates f v)) slots ≡ Some place → slot_at slots place ≡ None → ⊥
  found_used f v place at empty =
      let no : false ≡ true = ap (passes (translates f v)) (sym empty) ∙ (position_at (passes (translates f v)) slots place None at).1 in
      cc

  -- Keeping

  module _ (held : Held) where
    pub keep_nothing : list_any (passes (overlap (entry_of held))) slots ≡ true → cache_of slots order ≡ after_keep (entry_of held) (cache_of slots order)
    keep_nothing any =
        let at = any_at (passes (overlap (entry_of held))) slots None any in
        elim (slot_cases (slot_at slots at.0)) [
          | inl empty ↦ (let no : false ≡ true = ap (passes (overlap (entry_of held))) (sym empty) ∙ at.2 in cc)
          | inr some ↦ (
              let pass = ap (passes (overlap (entry_of held))) (sym some.1) ∙ at.2 in
              let one = any_passes slots (overlap (entry_of held)) at.0 some.0 order some.1 pass (kept.ordered.each at.0 at.1) in
              ap (λ (entries : List Entry). cache entries (length slots))
              (sym (cond-true (list_any (overlap (entry_of held)) (entries_at slots order)) (entries_at slots order)
              (entry_of held ∷ take (length slots - 1) (entries_at slots order)) one)))
        ]

    module _ (place : ℕ) (next : IsNext slots order place) (none : list_any (passes (overlap (entry_of held))) slots ≡ false) where
      keep_others : entries_at slots (less place order) ≡ take (length slots - 1) (entries_at slots order)
      keep_others = elim next.next [
        | inl unused ↦ (
            let as_many = kept.ordered.as_many in
            let fewer = length_less place order (kept.ordered.each place next.within) in
            let few = length_entries slots (less place order) in
            let same = entries_unused slots place order unused in
            let long = ap length same in
            same ∙ sym (take_all (length slots - 1) (entries_at slots order) (omega arith)))
        | inr full ↦ (
            let used : AllByRecursion (λ one. is_none (slot_at slots one.0) ≡ false) order =
            all_like (λ one. one.0 < length slots) (λ one. is_none (slot_at slots one.0) ≡ false)
            (λ one within. all_used slots full.0 one.0 within) order kept.ordered.within in
            ap (entries_at slots) (oldest_goes (length slots) place order kept.ordered kept.some full.1) ∙ entries_take slots (length slots - 1) order used)
      ]

      keep_entries : entries_at (slice_set slots place (Some held)) (promoted (nat_eq place) order) ≡ entry_of held ∷ take (length slots - 1) (entries_at slots order)
      keep_entries =
          ap (entries_at (slice_set slots place (Some held))) (order_in_front place order (kept.ordered.each place next.within))
          ∙ entries_put slots place held order next.within (kept.ordered.each place next.within) kept.ordered.apart
          ∙ ap (λ (others : List Entry). entry_of held ∷ others) keep_others

      pub keep_after : cache_of (slice_set slots place (Some held)) (promoted (nat_eq place) order) ≡ after_keep (entry_of held) (cache_of slots order)
      keep_after =
          let free = none_overlaps slots order (overlap (entry_of held)) none in
          ap (λ (entries : List Entry). cache entries (length (slice_set slots place (Some held))))
          (keep_entries
          ∙ sym (cond-false (list_any (overlap (entry_of held)) (entries_at slots order)) (entries_at slots order)
          (entry_of held ∷ take (length slots - 1) (entries_at slots order)) free))
          ∙ ap (cache (after_keep (entry_of held) (cache_of slots order)).entries) (length-set slots place (Some held))

      pub keep_kept : IsRun held.run → IsKept (slice_set slots place (Some held)) (promoted (nat_eq place) order)
      keep_kept run =
          let long = length-set slots place (Some held) in
          record {
            is = subst IsCache (sym keep_after) (keep_leaves (entry_of held) (cache_of slots order) kept.some run kept.is);
            some = (let some = kept.some in omega arith);
            few = (let few = kept.few in omega arith);
            ordered = subst (λ (n : ℕ). IsOrder n (promoted (nat_eq place) order)) (sym long) (order_used (length slots) place order kept.ordered next.within);
          }

  -- Forgetting

  pub forget_after : (f : ℕ) → cache_of (map (without f) slots) order ≡ after_forget f (cache_of slots order)
  forget_after f =
      ap (λ (entries : List Entry). cache entries (length (map (without f) slots))) (entries_without f slots order)
      ∙ ap (cache (after_forget f (cache_of slots order)).entries) (length-map slots (without f))

  pub forget_kept : (f : ℕ) → IsKept (map (without f) slots) order
  forget_kept f =
      let long = length-map slots (without f) in
      record {
        is = subst IsCache (sym (forget_after f)) (forget_leaves f (cache_of slots order) kept.is);
        some = (let some = kept.some in omega arith);
        few = (let few = kept.few in omega arith);
        ordered = subst (λ (n : ℕ). IsOrder n order) (sym long) kept.ordered;
      }

  pub clear_after : cache_of (replicate (length slots) None) order ≡ after_clear (cache_of slots order)
  clear_after =
      ap (λ (entries : List Entry). cache entries (length (replicate {A = Option Held} (length slots) None))) (entries_none (length slots) order)
      ∙ ap (cache []) (length-replicate (length slots) None)

  pub clear_kept : IsKept (replicate (length slots) None) order
  clear_kept =
      let long = length-replicate {A = Option Held} (length slots) None in
      record {
        is = subst IsCache (sym clear_after) (clear_leaves (cache_of slots order));
        some = (let some = kept.some in omega arith);
        few = (let few = kept.few in omega arith);
        ordered = subst (λ (n : ℕ). IsOrder n order) (sym long) kept.ordered;
      }

  -- Counting

  pub count_is : count_by is_some slots ≡ length (entries_at slots order)
  count_is = count_entries order slots kept.ordered.within kept.ordered.apart (λ place below. inr (kept.ordered.each place below))

-- A new cache

pub new_after : (count : ℕ) (order : Order) → cache_of (replicate count None) order ≡ empty_cache count
new_after count order =
    ap (λ (entries : List Entry). cache entries (length (replicate {A = Option Held} count None))) (entries_none count order)
    ∙ ap (cache []) (length-replicate count None)

pub new_kept : (count : ℕ) (order : Order) → IsOrder count order → 1 ≤ count → count < 256 → IsKept (replicate count None) order
new_kept count order ordered some few =
    let long = length-replicate {A = Option Held} count None in
    record {
      is = subst IsCache (sym (new_after count order)) (empty_is count);
      some = omega arith;
      few = omega arith;
      ordered = subst (λ (n : ℕ). IsOrder n order) (sym long) ordered;
    }
