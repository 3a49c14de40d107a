use Rattle.host_journal.proofs.Belonging.{stay_sound}
use Rattle.host_journal.proofs.laws.still_rests.Goals as goal

pub returns-clause-changes : goal.returns-clause-changes
returns-clause-changes c start = stay_sound _
