use Rattle.isolation.proofs.SeeingSteps.{told_alone}
use Rattle.isolation.proofs.laws.a_guest_sees_its_own_file.Goals as goal

pub returns : goal.returns
returns c = told_alone
