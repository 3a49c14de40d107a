use Rattle.isolation.proofs.OwnRun.{no_foreign}
use Rattle.isolation.proofs.laws.no_foreign_bytes.Goals as goal

pub returns : goal.returns
returns c = no_foreign
