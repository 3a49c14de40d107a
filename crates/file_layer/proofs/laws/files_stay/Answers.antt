use Rattle.file_layer.proofs.KeptWhole.{keeps_whole, rests_on}
use Rattle.file_layer.proofs.PutBlocks.{puts_at}
use Rattle.file_layer.proofs.ShownOpens.{stays_on}
use Rattle.file_layer.proofs.ReadBlocks.{files_rest_on}
use Rattle.file_layer.proofs.StillTogether.{commits_on}
use Rattle.file_layer.proofs.laws.files_stay.Goals as goal

pub returns-clause-puts : goal.returns-clause-puts
returns-clause-puts g c = puts_at

pub returns-clause-whole : goal.returns-clause-whole
returns-clause-whole g c geometry disk kept tells = keeps_whole geometry _ kept

pub returns-clause-rests : goal.returns-clause-rests
returns-clause-rests g c old new disk = rests_on old new _

pub returns-clause-changes : goal.returns-clause-changes
returns-clause-changes g c old new before after disk = stays_on old new before after _ (g.met.D.Disk.reads_whole disk)

pub returns-clause-reads : goal.returns-clause-reads
returns-clause-reads g c files journal old new = files_rest_on files journal _ _

pub returns-clause-commits : goal.returns-clause-commits
returns-clause-commits g c files journal old new clock = commits_on files journal _ _ clock
