use Rattle.extent_node.proofs.Nodes.{found_in_list}
use Rattle.extent_node.proofs.look.holding.Goals as goal

pub returns : goal.returns
returns c kind entries says = found_in_list c.args.words.now kind entries c.args.v _ says c.holding_in_place.ensures
