use Rattle.std.proofs.Common.{◌≡◌, ◌-◌, List, Option, None, get_or, sym, ap, ◌∙◌, arith}
use Rattle.nesc_base.specs.declared.numbers.FileNo.{FileNo}
use Rattle.hypervisor.specs.Attachments.{file_of}
use Rattle.hypervisor.proofs.Numbering.{entry_by_place}
use Rattle.hypervisor.proofs.attachments.Attachments.file.Goals as goal
use Rattle.hypervisor.proofs.attachments.Attachments.file.Goals.{After-get}

-- the entry at the place
at_place : (c : After-get) → get_or c.deref.result.now c.in_ok-index.index None ≡ file_of c.args.self.now c.args.f.0
at_place c =
    ap (λ (xs : List (Option FileNo)). get_or xs c.in_ok-index.index None) (c.deref.ensures.value ∙ c.self.view_is) ∙ ap (λ k. get_or c.args.self.now k None) (c.in_ok-index.ensures.1 ∙ ap (λ k. k - 1) c.from.ensures)
    ∙ sym (entry_by_place c.args.self.now c.args.f.0 (omega (arith, c.in_ok-index.ensures.0, c.from.ensures)))

pub returns-in_err-get-clause-file : goal.returns-in_err-get-clause-file
returns-in_err-get-clause-file c =
    c.from_residual-in_err-get.ensures ∙ c.in_err-get.ensures.lookup.4 (omega arith) None ∙ at_place (goal.at.returns-in_err-get-clause-file c).After-get

pub returns-clause-file : goal.returns-clause-file
returns-clause-file c = c.in_ok-get.ensures.lookup.4 (omega arith) None ∙ at_place (goal.at.returns-clause-file c).After-get
