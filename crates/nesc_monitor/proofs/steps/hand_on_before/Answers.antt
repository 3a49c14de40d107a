use Rattle.std.proofs.Common.{inl}
use Rattle.nesc_monitor.proofs.steps.hand_on_before.Goals as goal

pub returns-clause-in_time : goal.returns-clause-in_time
returns-clause-in_time g c = inl (c.may_change.ensures c.if-may_change.false)
