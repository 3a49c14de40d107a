use Rattle.host_journal.proofs.Belonging.{kept_left}
use Rattle.host_journal.proofs.laws.kept_is_left.Goals as goal

pub returns : goal.returns
returns c start geometry old new kept is goes writes = kept_left _ _ (c.met.D.Disk.left_now old) goes writes geometry kept is
