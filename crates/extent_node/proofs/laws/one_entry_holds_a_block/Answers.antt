use Rattle.extent_node.proofs.Apart.{one_holds}
use Rattle.extent_node.proofs.laws.one_entry_holds_a_block.Goals as goal

pub returns : goal.returns
returns c = one_holds
