use Rattle.slot_layout.proofs.Alike.{length-laid_over}
use Rattle.host_journal.specs.Staged.{fresh_of, targets_of}
use Rattle.host_journal.proofs.Overlaid.{forgets_one, keeps_gates, now-empty, stages_one}
use Rattle.host_journal.proofs.laws.stages_and_forgets.Goals as goal

pub returns-clause-none : goal.returns-clause-none
returns-clause-none c = now-empty

pub returns-clause-stages : goal.returns-clause-stages
returns-clause-stages c = stages_one

pub returns-clause-forgets : goal.returns-clause-forgets
returns-clause-forgets c = forgets_one

pub returns-clause-gates : goal.returns-clause-gates
returns-clause-gates c = keeps_gates

pub returns-clause-whole : goal.returns-clause-whole
returns-clause-whole c staged kept = length-laid_over (targets_of staged) (fresh_of staged) kept
