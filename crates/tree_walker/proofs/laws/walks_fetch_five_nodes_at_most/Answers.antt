use Rattle.std.proofs.Common.{arith, length, map}
use Rattle.std.proofs.lemmas.List.{length-map}
use Rattle.tree_walker.specs.Walking.{most_fetches, standing}
use Rattle.tree_walker.proofs.Walks.{fetches_few}
use Rattle.tree_walker.proofs.laws.walks_fetch_five_nodes_at_most.Goals as goal

pub returns : goal.returns
returns c words root v area found addresses walk =
    omega (arith, length-map addresses (standing words), fetches_few (length words) area v (map (standing words) addresses) most_fetches root found walk)
