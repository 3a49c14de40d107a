use Rattle.std.proofs.Common.{◌≡◌, ◌++◌, ℕ, List, Option, None, drop, length, replicate, take, sym, ap, subst, ◌∙◌}
use Rattle.std.proofs.lemmas.List.{length-replicate}
use Rattle.translation_model.specs.Translations.{after_clear}
use Rattle.btlb_cache.specs.declared.slots.Held.{Held}
use Rattle.btlb_cache.specs.Slots.{IsKept, cache_of}
use Rattle.btlb_cache.proofs.Caches.{clear_after, clear_kept}
use Rattle.btlb_cache.proofs.Placed.{whole}
use Rattle.btlb_cache.proofs.btlb.Btlb.clear.Goals as goal

-- what stands at the places after they were written
written : (n : ℕ) (items now new rest : List (Option Held)) → now ≡ items → length now ≡ n → new ≡ replicate (length now) None → take n (new ++ rest) ≡ replicate (length items) None
written n items now new rest same long is =
    whole n now new rest long (ap length is ∙ length-replicate (length now) None) ∙ is ∙ ap (λ (those : List (Option Held)). replicate (length those) None) same

pub invariant_of-self : goal.invariant_of-self
invariant_of-self c =
    let items = c.self.inside.slots.items in
    let is = written c.self.inside.slots.len items c.deref_mut.result.now c.clear.new.slots (drop (length c.clear.new.slots) items) c.deref_mut.ensures.value c.deref_mut.ensures.len c.clear.ensures in
    subst (λ (slots : List (Option Held)). IsKept slots c.self.inside.order.entries) (sym is) (clear_kept items c.self.inside.order.entries c.self.invariant)

pub returns : goal.returns
returns c =
    let items = c.self.inside.slots.items in
    let is = written c.self.inside.slots.len items c.deref_mut.result.now c.clear.new.slots (drop (length c.clear.new.slots) items) c.deref_mut.ensures.value c.deref_mut.ensures.len c.clear.ensures in
    ap (λ (slots : List (Option Held)). cache_of slots c.self.inside.order.entries) is
    ∙ clear_after items c.self.inside.order.entries c.self.invariant ∙ ap after_clear c.self.view_is
