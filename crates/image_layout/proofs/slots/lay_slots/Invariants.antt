use Rattle.std.proofs.Common.{◌-◌}
use Rattle.slot_layout.specs.Slots.{AreOpen, LaidOver}
use Rattle.image_layout.proofs.slots.lay_slots.Given as goal

-- the slots before slot k are open, and are laid over
abbrev pub invariant-loop-k : goal.invariant-loop-k
invariant-loop-k l = record {
  opened : AreOpen l.geometry l.image (l.k - 1);
  over : LaidOver l.geometry l.image (l.k - 1) l.laid;
}
