use Rattle.host_memory.proofs.PoolLaws.{takes}
use Rattle.host_memory.proofs.tests.take_and_give_back.Goals as goal

pub give_back-requires : goal.give_back-requires
give_back-requires c = (takes _ _ _ c.in_ok-node.ensures).after
