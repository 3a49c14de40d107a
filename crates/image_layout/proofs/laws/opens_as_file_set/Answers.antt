use Rattle.image_layout.proofs.FileSets.{opens_as_file_set}
use Rattle.image_layout.proofs.laws.opens_as_file_set.Goals as goal

pub returns : goal.returns
returns c = opens_as_file_set
