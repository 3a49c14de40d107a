use Rattle.host_journal.proofs.Images.{lays_not_lacks}
use Rattle.host_journal.proofs.Zeroing.{stands_for_some}
use Rattle.host_journal.proofs.laws.stands_for_some.Goals as goal

pub returns-clause-some : goal.returns-clause-some
returns-clause-some c = stands_for_some

pub returns-clause-lists : goal.returns-clause-lists
returns-clause-lists c = lays_not_lacks
