-- What is found in a cache, and what each use leaves of it.
use Rattle.std.proofs.Common.{◌≡◌, ◌≢◌, inl, inr, ℕ, ◌-◌, ◌<◌, ◌≤◌, ◌==◌, Bool, true, false, not, ◌&&◌, nat_lt, List, [], ◌∷◌, take, Option, Some, None, refl, sym, ◌∙◌, subst, arith}
use Rattle.std.specs.List.{AllByRecursion, IsDistinct, filter, list_any}
use Rattle.std.specs.Option.{option_map, option_map_or}
use Rattle.std.specs.Prelude.{nat_le, slice_get}
use Rattle.std.proofs.lemmas.Bool.{and_from, and_left, and_parts, both_ways, cases_Bool, cases_eq, cond_both, eq-eqb, eqb-true, leb-true, lt-ltb, ltb-true, ne_eqb, not-true, not_from_false, not_from_true}
use Rattle.std.proofs.Math.Bool.{and_comm}
use Rattle.nesc_base.specs.declared.runs.Area.{Area}
use Rattle.nesc_base.specs.Runs.{IsRun}
use Rattle.translation_model.specs.Translations.{Cache, Entry, IsCache, LiesIn, after_clear, after_forget, after_keep, after_look, empty_cache, end_of, found, found_place, in_front, is_of, overlap, place_of, translates}
use Rattle.translation_model.specs.Laws.{Each}
use Rattle.translation_model.proofs.Lists.{all_filter, all_like, all_take, any_none, distinct_at, distinct_filter, distinct_take, filter_behind, filter_here, filter_passing, find_all, find_behind, find_filter, find_here, find_none, length_filter, length_others, length_take}

-- Entries

-- an entry that has a block says so
pub record Translates (f v : ℕ) (entry : Entry) : Type 0 where
  pub function : entry.function ≡ f
  pub from : entry.run.first ≤ v
  pub below : v < end_of entry.run

pub what_translates : (f v : ℕ) (entry : Entry) → translates f v entry ≡ true → Translates f v entry
what_translates f v entry pass =
    let parts = and_parts (entry.function == f) _ pass in
    let bounds = and_parts _ (nat_lt v (end_of entry.run)) parts.1 in
    record { function = eqb-true entry.function f parts.0; from = leb-true entry.run.first v bounds.0; below = ltb-true v (end_of entry.run) bounds.1 }

-- two entries that have one block overlap
pub both_overlap : (f v : ℕ) (one other : Entry) → translates f v one ≡ true → translates f v other ≡ true → overlap one other ≡ true
both_overlap f v one other pass too =
    let here = what_translates f v one pass in
    let there = what_translates f v other too in
    and_from _ _ (eq-eqb one.function other.function (here.function ∙ sym there.function))
    (and_from _ _
    (lt-ltb one.run.first (end_of other.run) (let from = here.from in let below = there.below in omega arith))
    (lt-ltb other.run.first (end_of one.run) (let from = there.from in let below = here.below in omega arith)))

eq_flips : (x y : ℕ) → (x == y) ≡ (y == x)
eq_flips x y = elim (cases_eq x y) [
  | inl same ↦ eq-eqb x y same ∙ sym (eq-eqb y x (sym same))
  | inr apart ↦ ne_eqb x y apart ∙ sym (ne_eqb y x (λ same. apart (sym same)))
]

pub overlap_flips : (one other : Entry) → overlap one other ≡ overlap other one
overlap_flips one other = λ i. eq_flips one.function other.function i && and_comm (nat_lt one.run.first (end_of other.run)) (nat_lt other.run.first (end_of one.run)) i

-- What is found

-- those that do not have the block of an entry that is found have no block in common with it
found_apart : (f v : ℕ) (entries : List Entry) (entry : Entry) → IsDistinct overlap entries → found f v entries ≡ Some entry
    → AllByRecursion (λ other. overlap entry other ≡ false) (filter (λ other. not (translates f v other)) entries)
unfolding IsDistinct
found_apart f v [] entry apart is = cc
found_apart f v (first ∷ rest) entry apart is =
    let Apart : Entry → List Entry → Type 0 = λ one entries. AllByRecursion (λ other. overlap one other ≡ false) entries in
    let others : List Entry = filter (λ other. not (translates f v other)) rest in
    elim (cases_Bool (translates f v first)) [
      | inl pass ↦ (
          let here : first ≡ entry = (let at = find_here (translates f v) first rest pass in cc) in
          let all : Apart first others = all_filter (λ other. overlap first other ≡ false) (λ other. not (translates f v other)) rest apart.0 in
          subst (Apart entry) (sym (filter_behind (λ other. not (translates f v other)) first rest (not_from_true (translates f v first) pass))) (subst (λ one. Apart one others) here all))
      | inr fail ↦ (
          let behind : found f v rest ≡ Some entry = sym (find_behind (translates f v) first rest fail) ∙ is in
          let away = overlap_flips entry first ∙ (find_all (translates f v) (λ other. overlap first other ≡ false) rest entry apart.0 behind).0 in
          subst (Apart entry) (sym (filter_here (λ other. not (translates f v other)) first rest (not_from_false (translates f v first) fail)))
          (away, found_apart f v rest entry apart.1 behind))
    ]

-- where the runs of all entries lie in an area, what is found lies there
in_area : (area : Area) (f v at : ℕ) (entries : List Entry) (result : Option Entry) → found f v entries ≡ result
    → AllByRecursion (λ entry. LiesIn area entry.run) entries → option_map (λ (entry : Entry). place_of v entry.run) result ≡ Some at → (area.from ≤ at) × (at < area.to)
in_area area f v at entries None found all is = cc
in_area area f v at entries (Some entry) found all is =
    let both = find_all (translates f v) (λ (other : Entry). LiesIn area other.run) entries entry all found in
    let there = what_translates f v entry both.1 in
    let place : place_of v entry.run ≡ at = cc in
    let from = both.0.from in
    let to = both.0.to in
    let low = there.from in
    let high = there.below in
    (omega arith, omega arith)

pub found_lies_in : (area : Area) (cache : Cache) (f v at : ℕ) → Each (λ entry. LiesIn area entry.run) cache → found_place f v cache.entries ≡ Some at
    → (area.from ≤ at) × (at < area.to)
found_lies_in area cache f v at all is = in_area area f v at cache.entries (found f v cache.entries) refl all is

-- The uses leave caches

pub empty_is : (capacity : ℕ) → IsCache (empty_cache capacity)
unfolding IsDistinct
empty_is capacity = record { few = omega arith; runs = tt; apart = tt }

front_leaves : (f v : ℕ) (cache : Cache) (result : Option Entry) → found f v cache.entries ≡ result → IsCache cache
    → IsCache (record cache { entries = option_map_or (in_front f v cache.entries) result cache.entries })
unfolding IsDistinct
front_leaves f v cache None is are = are
front_leaves f v cache (Some entry) is are =
    let other : Entry → Bool = λ other. not (translates f v other) in
    record {
      few = (let few = are.few in let fewer = length_others (translates f v) cache.entries entry is in omega arith);
      runs = (
        (find_all (translates f v) (λ (one : Entry). IsRun one.run) cache.entries entry are.runs is).0,
        all_filter (λ (one : Entry). IsRun one.run) other cache.entries are.runs,
      );
      apart = (found_apart f v cache.entries entry are.apart is, distinct_filter overlap other cache.entries are.apart);
    }

pub look_leaves : (f v : ℕ) (cache : Cache) → IsCache cache → IsCache (after_look f v cache)
look_leaves f v cache are = front_leaves f v cache (found f v cache.entries) refl are

pub keep_leaves : (entry : Entry) (cache : Cache) → 1 ≤ cache.capacity → IsRun entry.run → IsCache cache → IsCache (after_keep entry cache)
unfolding IsDistinct
keep_leaves entry cache some run are =
    let kept : List Entry = take (cache.capacity - 1) cache.entries in
    cond_both (list_any (overlap entry) cache.entries) cache.entries (entry ∷ kept) (λ entries. IsCache (record cache { entries = entries })) (λ any. are) (λ none. record {
      few = (let fewer = length_take (cache.capacity - 1) cache.entries in omega arith);
      runs = (run, all_take (λ (one : Entry). IsRun one.run) (cache.capacity - 1) cache.entries are.runs);
      apart = (
        all_take (λ other. overlap entry other ≡ false) (cache.capacity - 1) cache.entries (any_none (overlap entry) cache.entries none),
        distinct_take overlap (cache.capacity - 1) cache.entries are.apart,
      );
    })

pub forget_leaves : (f : ℕ) (cache : Cache) → IsCache cache → IsCache (after_forget f cache)
forget_leaves f cache are =
    let stays : Entry → Bool = λ entry. not (is_of f entry) in
    record {
      few = (let few = are.few in let fewer = length_filter stays cache.entries in omega arith);
      runs = all_filter (λ (one : Entry). IsRun one.run) stays cache.entries are.runs;
      apart = distinct_filter overlap stays cache.entries are.apart;
    }

pub clear_leaves : (cache : Cache) → IsCache (after_clear cache)
clear_leaves cache = empty_is cache.capacity

-- What holds of each entry

module _ (Fact : Entry → Type 0) where
  front_each : (f v : ℕ) (entries : List Entry) (result : Option Entry) → found f v entries ≡ result → AllByRecursion Fact entries
      → AllByRecursion Fact (option_map_or (in_front f v entries) result entries)
  front_each f v entries None is all = all
  front_each f v entries (Some entry) is all = ((find_all (translates f v) Fact entries entry all is).0, all_filter Fact (λ other. not (translates f v other)) entries all)

  -- it stays of each through a look, and where a function is forgotten, and where an entry is kept of which it holds
  pub look_each : (f v : ℕ) (cache : Cache) → Each Fact cache → Each Fact (after_look f v cache)
  look_each f v cache all = front_each f v cache.entries (found f v cache.entries) refl all

  pub keep_each : (entry : Entry) (cache : Cache) → Fact entry → Each Fact cache → Each Fact (after_keep entry cache)
  keep_each entry cache fact all =
      cond_both (list_any (overlap entry) cache.entries) cache.entries (entry ∷ take (cache.capacity - 1) cache.entries) (AllByRecursion Fact) (λ any. all)
      (λ none. (fact, all_take Fact (cache.capacity - 1) cache.entries all))

  pub forget_each : (f : ℕ) (cache : Cache) → Each Fact cache → Each Fact (after_forget f cache)
  forget_each f cache all = all_filter Fact (λ entry. not (is_of f entry)) cache.entries all

-- A function that was forgotten

pub forget_of : (f : ℕ) (cache : Cache) → Each (λ entry. entry.function ≢ f) (after_forget f cache)
forget_of f cache =
    all_like (λ entry. not (is_of f entry) ≡ true) (λ entry. entry.function ≢ f)
    (λ entry other same. both_ways (is_of f entry) (not-true (is_of f entry) other) (eq-eqb entry.function f same)) (after_forget f cache).entries
    (filter_passing (λ entry. not (is_of f entry)) cache.entries)

not_of : (f v : ℕ) (entry : Entry) → entry.function ≢ f → translates f v entry ≡ false
not_of f v entry other = and_left (entry.function == f) (nat_le entry.run.first v && nat_lt v (end_of entry.run)) (ne_eqb entry.function f other)

pub forgotten_not_found : (f v : ℕ) (cache : Cache) → found f v (after_forget f cache).entries ≡ None
forgotten_not_found f v cache =
    find_none (translates f v) (after_forget f cache).entries
    (all_like (λ entry. entry.function ≢ f) (λ entry. translates f v entry ≡ false) (not_of f v) (after_forget f cache).entries (forget_of f cache))

is_another : (f g v : ℕ) → g ≢ f → (entry : Entry) → translates g v entry ≡ true → not (is_of f entry) ≡ true
is_another f g v apart entry pass =
    let there = what_translates g v entry pass in
    not_from_false (is_of f entry) (ne_eqb entry.function f (λ same. apart (sym there.function ∙ same)))

pub others_found : (f g v : ℕ) (cache : Cache) → g ≢ f → found g v (after_forget f cache).entries ≡ found g v cache.entries
others_found f g v cache apart = find_filter (translates g v) (λ entry. not (is_of f entry)) (is_another f g v apart) cache.entries

-- Two entries that have one block are one

pub one_entry : (cache : Cache) → IsCache cache → (j k f v : ℕ) (one other : Entry) → slice_get cache.entries j ≡ Some one → slice_get cache.entries k ≡ Some other
    → translates f v one ≡ true → translates f v other ≡ true → j ≡ k
one_entry cache are j k f v one other here there pass too =
    distinct_at overlap overlap_flips cache.entries j k one other are.apart here there (both_overlap f v one other pass too)
