use Rattle.std.proofs.Common.{◌≡◌, ◌++◌, ℕ, List, Option, drop, length, map, take, sym, ap, subst, ◌∙◌}
use Rattle.std.proofs.lemmas.List.{length-map}
use Rattle.translation_model.specs.Translations.{after_forget}
use Rattle.btlb_cache.specs.declared.slots.Held.{Held}
use Rattle.btlb_cache.specs.Slots.{IsKept, cache_of, without}
use Rattle.btlb_cache.proofs.Caches.{forget_after, forget_kept}
use Rattle.btlb_cache.proofs.Placed.{whole}
use Rattle.btlb_cache.proofs.btlb.Btlb.forget.Goals as goal

-- what stands at the places after they were written
written : (f n : ℕ) (items now new rest : List (Option Held)) → now ≡ items → length now ≡ n → new ≡ map (without f) now → take n (new ++ rest) ≡ map (without f) items
written f n items now new rest same long is = whole n now new rest long (ap length is ∙ length-map now (without f)) ∙ is ∙ ap (map (without f)) same

pub invariant_of-self : goal.invariant_of-self
invariant_of-self c =
    let items = c.self.inside.slots.items in
    let is = written c.args.f.0 c.self.inside.slots.len items c.deref_mut.result.now c.forget.new.slots (drop (length c.forget.new.slots) items) c.deref_mut.ensures.value c.deref_mut.ensures.len c.forget.ensures in
    subst (λ (slots : List (Option Held)). IsKept slots c.self.inside.order.entries) (sym is) (forget_kept items c.self.inside.order.entries c.self.invariant c.args.f.0)

pub returns : goal.returns
returns c =
    let items = c.self.inside.slots.items in
    let is = written c.args.f.0 c.self.inside.slots.len items c.deref_mut.result.now c.forget.new.slots (drop (length c.forget.new.slots) items) c.deref_mut.ensures.value c.deref_mut.ensures.len c.forget.ensures in
    ap (λ (slots : List (Option Held)). cache_of slots c.self.inside.order.entries) is
    ∙ forget_after items c.self.inside.order.entries c.self.invariant c.args.f.0 ∙ ap (after_forget c.args.f.0) c.self.view_is
