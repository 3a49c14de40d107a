use Rattle.std.proofs.Common.{◌≡◌, ℕ, Bool, false, true, List, Option, Some, sym, ap, subst, ◌∙◌}
use Rattle.std.specs.Prelude.{slice_set}
use Rattle.std.specs.List.{list_any}
use Rattle.lru.specs.LruCache.{LruCache}
use Rattle.translation_model.specs.Translations.{after_keep, overlap}
use Rattle.btlb_cache.specs.declared.slots.Held.{Held}
use Rattle.btlb_cache.specs.Slots.{IsKept, IsNext, cache_of, entry_of, passes}
use Rattle.btlb_cache.proofs.Caches.{keep_after, keep_kept, keep_nothing}
use Rattle.btlb_cache.proofs.btlb.Btlb.keep.Goals as goal

-- whether an entry overlaps, by the slice that was searched
overlaps_by : (held : Held) (slots now : List (Option Held)) (found value : Bool) → now ≡ slots → found ≡ list_any (passes (overlap (entry_of held))) now → found ≡ value
    → list_any (passes (overlap (entry_of held))) slots ≡ value
overlaps_by held slots now found value same is was = ap (list_any (passes (overlap (entry_of held)))) (sym same) ∙ sym is ∙ was

pub returns-then-any_overlaps : goal.returns-then-any_overlaps
returns-then-any_overlaps c =
    let held : Held = record { function = c.args.f; run = c.args.run } in
    let slots = c.self.inside.slots.items in
    let any = overlaps_by held slots c.deref.result.now c.any_overlaps.result true c.deref.ensures.value c.any_overlaps.ensures c.if-any_overlaps.true in
    sym c.self.view_is ∙ keep_nothing slots c.self.inside.order.entries c.self.invariant held any ∙ ap (after_keep (entry_of held)) c.self.view_is

pub invariant_of-self : goal.invariant_of-self
invariant_of-self c =
    let held : Held = record { function = c.args.f; run = c.args.run } in
    let slots = c.self.inside.slots.items in
    let order = c.self.inside.order.entries in
    let none = overlaps_by held slots c.deref.result.now c.any_overlaps.result false c.deref.ensures.value c.any_overlaps.ensures c.if-any_overlaps.false in
    let next = subst (λ (those : List (Option Held)). IsNext those order c.next_place-place.result) c.deref-2.ensures.value c.next_place-place.ensures in
    let kept = keep_kept slots order c.self.invariant held c.next_place-place.result next none c.requires in
    subst (λ (at : ℕ). IsKept (slice_set slots at (Some held)) c.promote.new.self.entries) (sym c.from.ensures)
    (subst (λ (after : LruCache ℕ (Unit {0})). IsKept (slice_set slots c.next_place-place.result (Some held)) after.entries) (sym c.promote.ensures.entries) kept)

pub returns : goal.returns
returns c =
    let held : Held = record { function = c.args.f; run = c.args.run } in
    let slots = c.self.inside.slots.items in
    let order = c.self.inside.order.entries in
    let none = overlaps_by held slots c.deref.result.now c.any_overlaps.result false c.deref.ensures.value c.any_overlaps.ensures c.if-any_overlaps.false in
    let next = subst (λ (those : List (Option Held)). IsNext those order c.next_place-place.result) c.deref-2.ensures.value c.next_place-place.ensures in
    ap (λ (at : ℕ). cache_of (slice_set slots at (Some held)) c.promote.new.self.entries) c.from.ensures
    ∙ ap (λ (after : LruCache ℕ (Unit {0})). cache_of (slice_set slots c.next_place-place.result (Some held)) after.entries) c.promote.ensures.entries
    ∙ keep_after slots order c.self.invariant held c.next_place-place.result next none
    ∙ ap (after_keep (entry_of held)) c.self.view_is
