use Rattle.image_layout.proofs.Beside.{files_beside, images_beside, no_files_beside}
use Rattle.image_layout.proofs.laws.opens_beside_slots.Goals as goal

pub returns : goal.returns
returns c = record { images = images_beside; files = files_beside; causes = no_files_beside }
