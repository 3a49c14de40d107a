use Rattle.std.proofs.Common.{◌≡◌, drop}
use Rattle.slot_layout.specs.Slots.{laid_over}
use Rattle.slot_layout.proofs.slots.lay_over.Given as goal

-- with the rest laid over, the blocks are as with all of them
abbrev pub invariant-loop-i : goal.invariant-loop-i
invariant-loop-i l = laid_over (drop l.i l.targets) (drop l.i l.fresh) l.blocks ≡ laid_over l.targets l.fresh l.initial.blocks
