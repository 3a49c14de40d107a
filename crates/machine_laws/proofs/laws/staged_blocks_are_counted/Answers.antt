use Rattle.machine_laws.proofs.Counting.{blocks_are_counted}
use Rattle.machine_laws.proofs.laws.staged_blocks_are_counted.Goals as goal

pub returns : goal.returns
returns c = blocks_are_counted
