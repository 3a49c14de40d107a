use Rattle.translation_model.proofs.Translating.{one_entry}
use Rattle.translation_model.proofs.laws.one_block_one_entry.Goals as goal

pub returns : goal.returns
returns c = one_entry
