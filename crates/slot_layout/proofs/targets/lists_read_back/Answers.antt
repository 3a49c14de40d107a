use Rattle.slot_layout.proofs.ListBlocks.{list_reads_back}
use Rattle.slot_layout.proofs.targets.lists_read_back.Goals as goal

pub returns : goal.returns
returns c = list_reads_back
