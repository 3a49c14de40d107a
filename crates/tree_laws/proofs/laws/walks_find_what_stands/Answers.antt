use Rattle.tree_laws.proofs.Walks.{finds_what_stands}
use Rattle.tree_laws.proofs.laws.walks_find_what_stands.Goals as goal

pub returns : goal.returns
returns c = finds_what_stands
