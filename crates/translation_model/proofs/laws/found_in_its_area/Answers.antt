use Rattle.translation_model.proofs.Translating.{found_lies_in}
use Rattle.translation_model.proofs.laws.found_in_its_area.Goals as goal

pub returns : goal.returns
returns c = λ area cache all f v at is. found_lies_in area cache f v at all is
