use Rattle.std.proofs.Common.{List, Option, sym, ap, subst, ◌∙◌, arith}
use Rattle.btlb_cache.specs.declared.slots.Held.{Held}
use Rattle.btlb_cache.specs.Slots.{IsKept, cache_of}
use Rattle.btlb_cache.proofs.Caches.{new_after, new_kept}
use Rattle.btlb_cache.proofs.btlb.Btlb.new.Goals as goal

pub invariant_of-result : goal.invariant_of-result
invariant_of-result c =
    subst (λ (slots : List (Option Held)). IsKept slots c.in_ok-order.order.entries) (sym c.in_ok-slots.ensures)
    (new_kept c.args.capacity c.in_ok-order.order.entries c.in_ok-order.ensures c.requires (omega arith))

pub returns : goal.returns
returns c = ap (λ (slots : List (Option Held)). cache_of slots c.in_ok-order.order.entries) c.in_ok-slots.ensures ∙ new_after c.args.capacity c.in_ok-order.order.entries
