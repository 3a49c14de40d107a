use Rattle.tree_walker.specs.Walking.{most_fetches}
use Rattle.tree_walker.proofs.OneWay.{one_way}
use Rattle.tree_walker.proofs.laws.walks_end_one_way.Goals as goal

pub returns : goal.returns
returns c words root v area found other addresses others one also =
    one_way words area v addresses others most_fetches root found other one also
