use Rattle.std.proofs.Common.{◌≡◌, ◌++◌, drop, map, take}
use Rattle.btlb_cache.specs.Slots.{without}
use Rattle.btlb_cache.proofs.slots.forget.Given as goal

abbrev pub invariant-loop-slot : goal.invariant-loop-slot
invariant-loop-slot l = l.slots ≡ map (without l.f.0) (take l.slot-index l.initial.slots) ++ drop l.slot-index l.initial.slots
