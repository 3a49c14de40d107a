use Rattle.isolation.proofs.OneRun.{one_solo_run}
use Rattle.isolation.proofs.SeeingSteps.{sees_no_other}
use Rattle.isolation.proofs.laws.the_own_history_decides.Goals as goal

pub returns-clause-one : goal.returns-clause-one
returns-clause-one c = one_solo_run

pub returns-clause-alike : goal.returns-clause-alike
returns-clause-alike c = sees_no_other
