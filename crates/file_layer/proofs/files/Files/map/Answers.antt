use Rattle.std.proofs.Common.{◌≡◌, ℕ, sym, subst}
use Rattle.file_layer.specs.Answers.{HasSpace}
use Rattle.file_layer.proofs.Ending.{all_needed, leads_mapped}
use Rattle.file_layer.proofs.files.Files.map.Goals as goal

-- all that are needed come to be held
all : (c : goal.After-hold_to) → c.hold_to.result ≡ c.in_ok-needed.field-0
all c =
    all_needed c.args.self.now c.args.file.0 c.args.v c.args.n c.hold_to.result c.in_ok-needed.field-0 c.in_ok-needed.ensures.takes.0 c.in_ok-needed.ensures.takes.1 c.hold_to.ensures.count

pub returns-clause-answers : goal.returns-clause-answers
returns-clause-answers c set places knows =
    subst (λ (newly : ℕ). HasSpace c.args.self.now.geometry.blocks set c.args.file.0 c.args.v c.args.n newly) (sym (all c)) (c.in_ok-needed.ensures.answers set places knows)

pub returns-clause-leads : goal.returns-clause-leads
returns-clause-leads c =
    leads_mapped c.args.file.0 c.args.v c.args.n c.hold_to.result c.in_ok-needed.field-0 c.args.self.now c.hold_to.new.self c.args.journal.now c.hold_to.new.journal c.requires.fits.layer (all c)
    c.in_ok-needed.ensures.takes.1 c.hold_to.ensures.leads
