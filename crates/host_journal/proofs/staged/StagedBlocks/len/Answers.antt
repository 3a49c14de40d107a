use Rattle.std.proofs.Common.{sym, ap, ◌∙◌}
use Rattle.std.specs.FinMap.{len}
use Rattle.host_journal.proofs.Stored.{AreApart-staged, len-staged}
use Rattle.host_journal.proofs.staged.StagedBlocks.len.Goals as goal

pub returns-clause-count : goal.returns-clause-count
returns-clause-count c =
    c.len.ensures ∙ c.self.inside.targets.ok.0 ∙ sym (len-staged _ _ c.self.invariant.paired (AreApart-staged c.self.invariant)) ∙ ap (λ s. len s.staged) c.self.view_is
