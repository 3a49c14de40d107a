use Rattle.slot_layout.proofs.TargetsRead.{AreRead}
use Rattle.slot_layout.proofs.targets.list_of.Given as goal

abbrev pub invariant-loop-i : goal.invariant-loop-i
invariant-loop-i l = AreRead l.fn.geometry l.blocks l.into l.i l.least
