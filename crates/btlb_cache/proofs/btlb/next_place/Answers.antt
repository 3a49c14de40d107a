use Rattle.std.proofs.Common.{None, inl, inr, sym}
use Rattle.std.specs.Prelude.{is_none}
use Rattle.btlb_cache.proofs.Orders.{oldest_within}
use Rattle.btlb_cache.proofs.Placed.{none_there, position_at, position_none}
use Rattle.btlb_cache.proofs.btlb.next_place.Goals as goal

pub returns-in-Some : goal.returns-in-Some
returns-in-Some c =
    let at = position_at is_none c.args.slots.now c.in-Some.place None (sym c.in-Some.ensures) in
    record { within = at.0; next = inl (none_there _ at.1) }

pub returns-in-None : goal.returns-in-None
returns-in-None c = record {
  within = oldest_within _ c.oldest.result c.args.order.now.entries c.requires.ordered c.oldest.ensures;
  next = inr (position_none is_none c.args.slots.now (sym c.in-None.ensures), c.oldest.ensures);
}
