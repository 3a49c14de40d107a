use Rattle.image_layout.proofs.OneFault.{opens_as_nothing}
use Rattle.image_layout.proofs.laws.opens_as_nothing.Goals as goal

pub returns : goal.returns
returns c = opens_as_nothing
