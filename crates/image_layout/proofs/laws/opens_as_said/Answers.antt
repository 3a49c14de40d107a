use Rattle.image_layout.proofs.OpenedFiles.{opens_as_said}
use Rattle.image_layout.proofs.laws.opens_as_said.Goals as goal

pub returns : goal.returns
returns c = opens_as_said
