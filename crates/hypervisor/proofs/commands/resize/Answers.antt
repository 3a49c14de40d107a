use Rattle.std.proofs.Common.{◌⊎◌, Err, refl, ap, ◌∙◌}
use Rattle.file_layer.specs.Answers.{FileAnswers}
use Rattle.file_layer.specs.Changing.{IsOfOwners, IsResized, IsTable}
use Rattle.nesc_requests.specs.declared.host.HostAnswer.TheVariants as said
use Rattle.nesc_requests.specs.declared.host.HostCommand.TheVariants.{Resize}
use Rattle.hypervisor.specs.declared.change.HostDone.{HostDone}
use Rattle.hypervisor.proofs.Done.{not_media, refused, stay_led}
use Rattle.hypervisor.proofs.Naming.{named_found, unnamed_found}
use Rattle.hypervisor.proofs.Resized.{GaveBack, resize_done}
use Rattle.hypervisor.proofs.Unnamed.{resize_unnamed}
use Rattle.hypervisor.proofs.commands.resize.Goals as goal

pub returns-in_default-clause-does : goal.returns-in_default-clause-does
returns-in_default-clause-does c =
    refused c.args.attachments.now c.args.queued c.args.files.now c.args.journal.now (Resize c.args.name.now c.args.length) c.answered.result c.args.files.now c.args.journal.now said.NoFile
    (ap (λ (done : HostDone). done.answer) c.answered.ensures) (ap (λ (done : HostDone). done.change) c.answered.ensures) refl refl
    (λ set places knows functions are. resize_unnamed c.args.files.now.geometry.blocks set functions c.args.name.now
    (unnamed_found c.args.files.now c.args.name.now c.find.result c.find.ensures.found c.in_default.is set places knows) c.args.length)

pub returns-in-Ok-clause-does : goal.returns-in-Ok-clause-does
returns-in-Ok-clause-does c =
    resize_done c.args.attachments.now c.args.queued c.in-Some.file c.function.result c.args.files.now c.args.journal.now c.args.name.now c.args.length c.in-Ok.given _ c.sized.result c.resize.new.self c.resize.new.journal
    (λ at. IsTable c.args.files.now.geometry at ⊎ IsOfOwners c.args.files.now.geometry c.args.files.now.map c.resize.new.self.map at)
    (named_found c.args.files.now c.args.name.now c.find.result c.find.ensures.found c.in-Some.file c.in-Some.is)
    c.function.ensures.sound c.function.ensures.some c.function.ensures.none c.in-Ok.ensures.answers refl refl c.sized.ensures c.in-Ok.ensures.leads c.in-Ok.ensures.stages

pub returns-in-Ok-clause-stays : goal.returns-in-Ok-clause-stays
returns-in-Ok-clause-stays c =
    stay_led (IsResized c.in-Some.file.0 c.args.length) c.args.files.now c.args.journal.now c.resize.new.self c.resize.new.journal c.in-Ok.ensures.leads

pub returns-in-Err-clause-read : goal.returns-in-Err-clause-read
returns-in-Err-clause-read c =
    not_media c.args.files.now (λ set cause. FileAnswers set c.in-Some.file.0 (GaveBack c.args.length) (Err cause)) c.in-Err.fault c.answered-in-Err.result.answer c.requires.fits.layer c.in-Err.ensures.answers (λ set never. never)
    (ap (λ (done : HostDone). done.answer) c.answered-in-Err.ensures ∙ c.refusal.ensures)
