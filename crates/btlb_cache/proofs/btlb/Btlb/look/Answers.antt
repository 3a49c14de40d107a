use Rattle.std.proofs.Common.{◌≡◌, ℕ, get_or, Option, Some, None, List, sym, ap, subst, ◌∙◌, arith}
use Rattle.std.specs.List.{position}
use Rattle.lru.specs.LruCache.{LruCache}
use Rattle.translation_model.specs.Translations.{Cache, after_look, found_place, translates}
use Rattle.btlb_cache.specs.declared.slots.Held.{Held}
use Rattle.btlb_cache.specs.Slots.{IsKept, cache_of, passes, slot_at}
use Rattle.btlb_cache.proofs.Caches.{found_used, look_after, look_kept, look_place, look_run, look_translates, miss_after, miss_place}
use Rattle.btlb_cache.proofs.Placed.{position_at, slot_of}
use Rattle.btlb_cache.proofs.btlb.Btlb.look.Goals as goal

-- the place that was found
found_at : (slots now : List (Option Held)) (f v place : ℕ) → now ≡ slots → Some place ≡ position (passes (translates f v)) now → position (passes (translates f v)) slots ≡ Some place
found_at slots now f v place same is = ap (position (passes (translates f v))) (sym same) ∙ sym is

found_slot : (slots : List (Option Held)) (f v place : ℕ) (slot value : Option Held) → position (passes (translates f v)) slots ≡ Some place
    → slot ≡ get_or slots place slot → slot ≡ value → slot_at slots place ≡ value
found_slot slots f v place slot value at is was = slot_of slots place slot (position_at (passes (translates f v)) slots place None at).0 is ∙ was

pub returns-in_err-place-clause-place : goal.returns-in_err-place-clause-place
returns-in_err-place-clause-place c =
    let none = ap (position (passes (translates c.args.f.0 c.args.v))) (sym c.deref.ensures.value) ∙ sym c.in_err-place.ensures in
    c.from_residual.ensures ∙ sym (miss_place c.self.inside.slots.items c.self.inside.order.entries c.self.invariant c.args.f.0 c.args.v none)
    ∙ ap (λ (cache : Cache). found_place c.args.f.0 c.args.v cache.entries) c.self.view_is

pub returns-in_err-place-clause-looks : goal.returns-in_err-place-clause-looks
returns-in_err-place-clause-looks c =
    let none = ap (position (passes (translates c.args.f.0 c.args.v))) (sym c.deref.ensures.value) ∙ sym c.in_err-place.ensures in
    sym c.self.view_is ∙ miss_after c.self.inside.slots.items c.self.inside.order.entries c.self.invariant c.args.f.0 c.args.v none
    ∙ ap (after_look c.args.f.0 c.args.v) c.self.view_is

pub returns-in_err-held-clause-place : goal.returns-in_err-held-clause-place
returns-in_err-held-clause-place c =
    let slots = c.self.inside.slots.items in
    let at = found_at slots c.deref.result.now c.args.f.0 c.args.v c.in_ok-place.place c.deref.ensures.value c.in_ok-place.ensures in
    let there = found_slot slots c.args.f.0 c.args.v c.in_ok-place.place c.index.result.now None at c.index.ensures c.in_err-held.was in
    absurd (found_used slots c.self.inside.order.entries c.self.invariant c.args.f.0 c.args.v c.in_ok-place.place at there)

pub returns-in_err-held-clause-looks : goal.returns-in_err-held-clause-looks
returns-in_err-held-clause-looks c =
    let slots = c.self.inside.slots.items in
    let at = found_at slots c.deref.result.now c.args.f.0 c.args.v c.in_ok-place.place c.deref.ensures.value c.in_ok-place.ensures in
    let there = found_slot slots c.args.f.0 c.args.v c.in_ok-place.place c.index.result.now None at c.index.ensures c.in_err-held.was in
    absurd (found_used slots c.self.inside.order.entries c.self.invariant c.args.f.0 c.args.v c.in_ok-place.place at there)

pub overflow_sub-result : goal.overflow_sub-result
overflow_sub-result c =
    let slots = c.self.inside.slots.items in
    let at = found_at slots c.deref.result.now c.args.f.0 c.args.v c.in_ok-place.place c.deref.ensures.value c.in_ok-place.ensures in
    let there = found_slot slots c.args.f.0 c.args.v c.in_ok-place.place c.index.result.now (Some c.in_ok-held.held) at c.index.ensures c.in_ok-held.was in
    (look_translates slots c.self.inside.order.entries c.self.invariant c.args.f.0 c.args.v c.in_ok-place.place c.in_ok-held.held at there).from

pub overflow_add-result : goal.overflow_add-result
overflow_add-result c =
    let slots = c.self.inside.slots.items in
    let at = found_at slots c.deref.result.now c.args.f.0 c.args.v c.in_ok-place.place c.deref.ensures.value c.in_ok-place.ensures in
    let there = found_slot slots c.args.f.0 c.args.v c.in_ok-place.place c.index.result.now (Some c.in_ok-held.held) at c.index.ensures c.in_ok-held.was in
    let has = look_translates slots c.self.inside.order.entries c.self.invariant c.args.f.0 c.args.v c.in_ok-place.place c.in_ok-held.held at there in
    let run = look_run slots c.self.inside.order.entries c.self.invariant c.args.f.0 c.args.v c.in_ok-place.place c.in_ok-held.held at there in
    let from = has.from in
    let below = has.below in
    let placed = run.placed in
    omega arith

pub invariant_of-self : goal.invariant_of-self
invariant_of-self c =
    let slots = c.self.inside.slots.items in
    let at = found_at slots c.deref.result.now c.args.f.0 c.args.v c.in_ok-place.place c.deref.ensures.value c.in_ok-place.ensures in
    let there = found_slot slots c.args.f.0 c.args.v c.in_ok-place.place c.index.result.now (Some c.in_ok-held.held) at c.index.ensures c.in_ok-held.was in
    subst (λ (order : LruCache ℕ (Unit {0})). IsKept slots order.entries) (sym c.promote.ensures.entries)
    (look_kept slots c.self.inside.order.entries c.self.invariant c.args.f.0 c.args.v c.in_ok-place.place c.in_ok-held.held at there)

pub returns-clause-place : goal.returns-clause-place
returns-clause-place c =
    let slots = c.self.inside.slots.items in
    let at = found_at slots c.deref.result.now c.args.f.0 c.args.v c.in_ok-place.place c.deref.ensures.value c.in_ok-place.ensures in
    let there = found_slot slots c.args.f.0 c.args.v c.in_ok-place.place c.index.result.now (Some c.in_ok-held.held) at c.index.ensures c.in_ok-held.was in
    sym (look_place slots c.self.inside.order.entries c.self.invariant c.args.f.0 c.args.v c.in_ok-place.place c.in_ok-held.held at there)
    ∙ ap (λ (cache : Cache). found_place c.args.f.0 c.args.v cache.entries) c.self.view_is

pub returns-clause-looks : goal.returns-clause-looks
returns-clause-looks c =
    let slots = c.self.inside.slots.items in
    let at = found_at slots c.deref.result.now c.args.f.0 c.args.v c.in_ok-place.place c.deref.ensures.value c.in_ok-place.ensures in
    let there = found_slot slots c.args.f.0 c.args.v c.in_ok-place.place c.index.result.now (Some c.in_ok-held.held) at c.index.ensures c.in_ok-held.was in
    ap (λ (order : LruCache ℕ (Unit {0})). cache_of slots order.entries) c.promote.ensures.entries
    ∙ look_after slots c.self.inside.order.entries c.self.invariant c.args.f.0 c.args.v c.in_ok-place.place c.in_ok-held.held at there
    ∙ ap (after_look c.args.f.0 c.args.v) c.self.view_is
