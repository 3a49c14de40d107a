use Rattle.image_layout.proofs.OneSaying.{opens_once}
use Rattle.image_layout.proofs.laws.opens_once.Goals as goal

pub returns : goal.returns
returns c = opens_once
