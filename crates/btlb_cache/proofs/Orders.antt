-- The order of places: where a place comes to the front, and the one that was not used for longest.
use Rattle.std.proofs.Common.{◌≡◌, ◌≢◌, inl, inr, ℕ, zero, suc, ◌+◌, ◌-◌, ◌<◌, ◌≤◌, true, false, [], ◌∷◌, length, take, nat_eq, Option, Some, None, refl, sym, ap, ◌∙◌, subst, arith}
use Rattle.std.specs.Prelude.{slice_get}
use Rattle.std.specs.List.{AllByRecursion, IsDistinct}
use Rattle.std.specs.Map.{lookup_entry, remove_entry}
use Rattle.std.specs.Option.{option_map_or}
use Rattle.std.proofs.lemmas.Bool.{cases_Bool, cases_eq, cond-false, cond-true, eq-eqb, eqb-false, eqb-true, ne_eqb}
use Rattle.std.proofs.lemmas.List.{take_all}
use Rattle.lru.specs.LruCache.{LruCache, promoted, put_entries}
use Rattle.translation_model.proofs.Lists.{all_at, all_like}
use Rattle.btlb_cache.specs.Slots.{Has, IsOldest, IsOrder, Order, is_same}

-- the order without a place
abbrev pub less : ℕ → Order → Order
less place order = remove_entry (nat_eq place) order

module _ (place : ℕ) where
  look_here : (one : ℕ × Unit {0}) (rest : Order) → nat_eq place one.0 ≡ true → lookup_entry (nat_eq place) (one ∷ rest) ≡ Some one
  look_here one rest same = cond-true (nat_eq place one.0) (Some one) (lookup_entry (nat_eq place) rest) same

  look_behind : (one : ℕ × Unit {0}) (rest : Order) → nat_eq place one.0 ≡ false → lookup_entry (nat_eq place) (one ∷ rest) ≡ lookup_entry (nat_eq place) rest
  look_behind one rest other = cond-false (nat_eq place one.0) (Some one) (lookup_entry (nat_eq place) rest) other

  pub less_here : (one : ℕ × Unit {0}) (rest : Order) → nat_eq place one.0 ≡ true → less place (one ∷ rest) ≡ rest
  less_here one rest same = cond-true (nat_eq place one.0) rest (one ∷ less place rest) same

  pub less_behind : (one : ℕ × Unit {0}) (rest : Order) → nat_eq place one.0 ≡ false → less place (one ∷ rest) ≡ one ∷ less place rest
  less_behind one rest other = cond-false (nat_eq place one.0) rest (one ∷ less place rest) other

  pub has_behind : (one : ℕ × Unit {0}) (rest : Order) → nat_eq place one.0 ≡ false → Has place (one ∷ rest) → Has place rest
  has_behind one rest other has = sym (look_behind one rest other) ∙ has

  pub in_front : (order : Order) → Has place order → promoted (nat_eq place) order ≡ (place, tt) ∷ less place order
  in_front order has = ap (λ (found : Option (ℕ × Unit {0})). option_map_or (λ one. one ∷ less place order) found order) has

  pub all_less : (P : ℕ × Unit {0} → Type 0) (order : Order) → AllByRecursion P order → AllByRecursion P (less place order)
  all_less P [] all = tt
  all_less P (one ∷ rest) all = elim (cases_Bool (nat_eq place one.0)) [
    | inl same ↦ subst (AllByRecursion P) (sym (less_here one rest same)) all.1
    | inr other ↦ subst (AllByRecursion P) (sym (less_behind one rest other)) (all.0, all_less P rest all.1)
  ]

  apart_less : (order : Order) → IsDistinct is_same order → IsDistinct is_same (less place order)
  unfolding IsDistinct
  apart_less [] apart = tt
  apart_less (one ∷ rest) apart = elim (cases_Bool (nat_eq place one.0)) [
    | inl same ↦ subst (IsDistinct is_same) (sym (less_here one rest same)) apart.1
    | inr other ↦ subst (IsDistinct is_same) (sym (less_behind one rest other)) (all_less (λ two. is_same one two ≡ false) rest apart.0, apart_less rest apart.1)
  ]

  -- where each place stands once, the others are others
  pub others_less : (order : Order) → IsDistinct is_same order → Has place order → AllByRecursion (λ one. nat_eq place one.0 ≡ false) (less place order)
  unfolding IsDistinct
  others_less [] apart has = cc
  others_less (one ∷ rest) apart has = elim (cases_Bool (nat_eq place one.0)) [
    | inl same ↦ (
        let is : one.0 ≡ place = sym (eqb-true place one.0 same) in
        subst (AllByRecursion (λ two. nat_eq place two.0 ≡ false)) (sym (less_here one rest same))
        (subst (λ (at : ℕ). AllByRecursion (λ (two : ℕ × Unit {0}). nat_eq at two.0 ≡ false) rest) is apart.0))
    | inr other ↦ subst (AllByRecursion (λ two. nat_eq place two.0 ≡ false)) (sym (less_behind one rest other))
        (other, others_less rest apart.1 (has_behind one rest other has))
  ]

  pub length_less : (order : Order) → Has place order → length (less place order) + 1 ≡ length order
  length_less [] has = cc
  length_less (one ∷ rest) has = elim (cases_Bool (nat_eq place one.0)) [
    | inl same ↦ (let gone = ap length (less_here one rest same) in omega arith)
    | inr other ↦ (let stays = ap length (less_behind one rest other) in let fewer = length_less rest (has_behind one rest other has) in omega arith)
  ]

  lacks : (order : Order) → AllByRecursion (λ one. one.0 < place) order → lookup_entry (nat_eq place) order ≡ None
  lacks [] all = refl
  lacks (one ∷ rest) all = look_behind one rest (ne_eqb place one.0 (λ same. (let below = all.0 in omega arith))) ∙ lacks rest all.1

-- another place stays
has_other : (j k : ℕ) (order : Order) → j ≢ k → Has j order → Has j (less k order)
has_other j k [] apart has = cc
has_other j k (one ∷ rest) apart has = elim (cases_Bool (nat_eq k one.0)) [
  | inl gone ↦ (
      let is : k ≡ one.0 = eqb-true k one.0 gone in
      subst (Has j) (sym (less_here k one rest gone)) (has_behind j one rest (ne_eqb j one.0 (λ same. apart (same ∙ sym is))) has))
  | inr stays ↦ subst (Has j) (sym (less_behind k one rest stays)) (elim (cases_Bool (nat_eq j one.0)) [
    | inl same ↦ look_here j one (less k rest) same ∙ sym (look_here j one rest same) ∙ has
    | inr other ↦ look_behind j one (less k rest) other ∙ has_other j k rest apart (has_behind j one rest other has)
  ])
]

has_front : (j k : ℕ) (rest : Order) → j ≡ k → Has j ((k, tt) ∷ rest)
has_front j k rest same = look_here j (k, tt) rest (eq-eqb j k same) ∙ ap (λ (at : ℕ). Some (at, tt)) (sym same)

-- a place comes to the front, and all stand in the order as before
pub order_used : (count place : ℕ) (order : Order) → IsOrder count order → place < count → IsOrder count (promoted (nat_eq place) order)
unfolding IsDistinct
order_used count place order is below =
    let has = is.each place below in
    subst (IsOrder count) (sym (in_front place order has)) (record {
      each = λ j within. elim (cases_eq j place) [
        | inl same ↦ has_front j place (less place order) same
        | inr apart ↦ look_behind j (place, tt) (less place order) (ne_eqb j place apart) ∙ has_other j place order apart (is.each j within)
      ];
      within = (below, all_less place (λ one. one.0 < count) order is.within);
      apart = (others_less place order is.apart has, apart_less place order is.apart);
      as_many = (let fewer = length_less place order has in let as_many = is.as_many in omega arith);
    })

-- the first places
pub no_order : IsOrder 0 []
unfolding IsDistinct
no_order = record { each = λ place below. absurd (omega arith); within = tt; apart = tt; as_many = refl }

pub lacks_next : (count : ℕ) (order : Order) → IsOrder count order → lookup_entry (nat_eq count) order ≡ None
lacks_next count order is = lacks count order is.within

pub order_more : (count : ℕ) (order : Order) → IsOrder count order → IsOrder (count + 1) ((count, tt) ∷ order)
unfolding IsDistinct
order_more count order is = record {
  each = λ j within. elim (cases_eq j count) [
    | inl same ↦ has_front j count order same
    | inr apart ↦ look_behind j (count, tt) order (ne_eqb j count apart) ∙ is.each j (omega arith)
  ];
  within = (omega arith, all_like (λ one. one.0 < count) (λ one. one.0 < count + 1) (λ one below. omega arith) order is.within);
  apart = (all_like (λ one. one.0 < count) (λ one. nat_eq count one.0 ≡ false) (λ one below. ne_eqb count one.0 (λ same. omega arith)) order is.within, is.apart);
  as_many = (let as_many = is.as_many in omega arith);
}

-- Without the last place the others stand as they stood.
last_goes : (n place : ℕ) (order : Order) → length order ≡ n + 1 → slice_get order n ≡ Some (place, tt) → IsDistinct is_same order → less place order ≡ take n order
unfolding IsDistinct
last_goes n place [] long last apart = cc
last_goes zero place (one ∷ rest) long last apart =
    let is : one ≡ (place, tt) = cc in
    less_here place one rest (eq-eqb place one.0 (sym (ap (λ (two : ℕ × Unit {0}). two.0) is))) ∙ sym (take_all 0 rest (omega arith))
last_goes (suc n) place (one ∷ rest) long last apart =
    let other = all_at (λ two. is_same one two ≡ false) rest n (place, tt) apart.0 last in
    less_behind place one rest (ne_eqb place one.0 (λ same. eqb-false one.0 place other (sym same))) ∙ ap (λ (those : Order). one ∷ those) (last_goes n place rest (omega arith) last apart.1)

pub oldest_goes : (count place : ℕ) (order : Order) → IsOrder count order → 1 ≤ count → IsOldest order place → less place order ≡ take (count - 1) order
oldest_goes count place order is some last =
    let as_many = is.as_many in
    last_goes (count - 1) place order (omega arith) (ap (λ (n : ℕ). slice_get order (n - 1)) (sym as_many) ∙ last) is.apart

pub oldest_within : (count place : ℕ) (order : Order) → IsOrder count order → IsOldest order place → place < count
oldest_within count place order is last = all_at (λ one. one.0 < count) order (length order - 1) (place, tt) is.within last

-- where the first places stand, the next one comes in front of them
pub put_next : (count place : ℕ) (order : LruCache ℕ (Unit {0})) → IsOrder place order.entries → order.cap ≡ count → place < count
    → put_entries nat_eq order place tt ≡ (place, tt) ∷ order.entries
put_next count place order is fits within =
    ap (λ (found : Option (ℕ × Unit {0})). option_map_or (λ one. (one.0, tt) ∷ less place order.entries) found ((place, tt) ∷ take (order.cap - 1) order.entries))
    (lacks_next place order.entries is)
    ∙ ap (λ (rest : Order). (place, tt) ∷ rest) (take_all (order.cap - 1) order.entries (let as_many = is.as_many in omega arith))
