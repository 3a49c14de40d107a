use Rattle.std.proofs.Common.{◌≡◌}
use Rattle.btlb_cache.specs.Slots.{IsOrder}
use Rattle.btlb_cache.proofs.btlb.places.Given as goal

abbrev pub invariant-loop-place : goal.invariant-loop-place
invariant-loop-place l = record { ordered : IsOrder l.place l.order.entries; fits : l.order.cap ≡ l.count }
