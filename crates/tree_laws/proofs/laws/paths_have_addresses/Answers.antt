use Rattle.tree_laws.proofs.Addresses.{has_addresses}
use Rattle.tree_laws.proofs.laws.paths_have_addresses.Goals as goal

pub returns : goal.returns
returns c = has_addresses
