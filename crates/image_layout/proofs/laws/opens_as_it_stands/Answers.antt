use Rattle.image_layout.proofs.Beside.{divided_standing, opens_alone, opens_standing, refused_standing}
use Rattle.image_layout.proofs.laws.opens_as_it_stands.Goals as goal

pub returns : goal.returns
returns c = record { divided = divided_standing; alone = opens_alone; opens = opens_standing; refused = refused_standing }
