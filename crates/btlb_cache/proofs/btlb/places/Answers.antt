use Rattle.std.proofs.Common.{ℕ, ◌+◌, sym, ap, subst, ◌∙◌, arith}
use Rattle.lru.specs.LruCache.{LruCache}
use Rattle.btlb_cache.specs.Slots.{IsOrder}
use Rattle.btlb_cache.proofs.Orders.{no_order, order_more, put_next}
use Rattle.btlb_cache.proofs.btlb.places.Goals as goal

pub loop-place-init : goal.loop-place-init
loop-place-init c =
    let is = c.in_ok-order.ensures in
    record {
      ordered = subst (λ (order : LruCache ℕ (Unit {0})). IsOrder 0 order.entries) (sym is) no_order;
      fits = ap (λ (order : LruCache ℕ (Unit {0})). order.cap) is ∙ (rw c.unwrap.ensures at c.new.ensures) ∙ c.from.ensures;
    }

pub loop-place-preserved : goal.loop-place-preserved
loop-place-preserved c =
    let put = c.in_ok-put.ensures.entries in
    let was = c.loop-place.invariant in
    let place = c.loop-place.place in
    let entries = ap (λ (order : LruCache ℕ (Unit {0})). order.entries) put
    ∙ put_next c.args.count place c.loop-place.order was.ordered was.fits (omega arith) in
    record {
      ordered = subst (IsOrder (place + 1)) (sym entries) (order_more place c.loop-place.order.entries was.ordered);
      fits = ap (λ (order : LruCache ℕ (Unit {0})). order.cap) put ∙ was.fits;
    }
