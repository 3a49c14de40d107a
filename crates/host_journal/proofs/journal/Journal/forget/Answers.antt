use Rattle.host_journal.proofs.Sounding.{sound-forgotten}
use Rattle.host_journal.proofs.journal.Journal.forget.Goals as goal

pub invariant_of-self : goal.invariant_of-self
invariant_of-self c = sound-forgotten c.self.invariant c.args.at c.remove.new.self c.remove.ensures
