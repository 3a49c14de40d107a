use Rattle.std.proofs.Common.{Err, ap, ◌∙◌}
use Rattle.file_layer.specs.Answers.{CreateAnswers}
use Rattle.file_layer.specs.Changing.{IsCreated, IsTable}
use Rattle.nesc_requests.specs.declared.host.HostCommand.TheVariants.{Create}
use Rattle.hypervisor.specs.Carrying.{refusal_of}
use Rattle.hypervisor.specs.declared.change.HostDone.{HostDone}
use Rattle.hypervisor.proofs.Created.{create_done, create_refused}
use Rattle.hypervisor.proofs.Done.{not_media, refused, stay_led, stay_still}
use Rattle.hypervisor.proofs.commands.create.Goals as goal

pub returns-in-Ok-clause-does : goal.returns-in-Ok-clause-does
returns-in-Ok-clause-does c =
    create_done c.args.attachments.now c.args.queued c.args.files.now c.args.journal.now c.args.name c.args.length c.answered.result c.create.new.self c.create.new.journal c.in-Ok.field-0.0 (IsTable c.args.files.now.geometry)
    (ap (λ (done : HostDone). done.answer) c.answered.ensures) (ap (λ (done : HostDone). done.change) c.answered.ensures) c.in-Ok.ensures.leads c.in-Ok.ensures.stages

pub returns-in-Ok-clause-stays : goal.returns-in-Ok-clause-stays
returns-in-Ok-clause-stays c =
    stay_led (IsCreated c.in-Ok.field-0.0 c.args.name c.args.length) c.args.files.now c.args.journal.now c.create.new.self c.create.new.journal c.in-Ok.ensures.leads

pub returns-in-Err-clause-does : goal.returns-in-Err-clause-does
returns-in-Err-clause-does c =
    refused c.args.attachments.now c.args.queued c.args.files.now c.args.journal.now (Create c.args.name c.args.length) c.answered-in-Err.result c.create.new.self c.create.new.journal (refusal_of c.in-Err.fault)
    (ap (λ (done : HostDone). done.answer) c.answered-in-Err.ensures ∙ c.refusal.ensures) (ap (λ (done : HostDone). done.change) c.answered-in-Err.ensures) c.in-Err.ensures.refused.0 c.in-Err.ensures.refused.1
    (λ set places knows functions are. create_refused c.args.files.now.geometry.blocks set functions c.args.name c.args.length c.in-Err.fault (c.in-Err.ensures.answers set places knows))

pub returns-in-Err-clause-stays : goal.returns-in-Err-clause-stays
returns-in-Err-clause-stays c = stay_still c.args.files.now c.args.journal.now c.create.new.self c.create.new.journal c.in-Err.ensures.refused.0 c.in-Err.ensures.refused.1

pub returns-in-Err-clause-read : goal.returns-in-Err-clause-read
returns-in-Err-clause-read c =
    not_media c.args.files.now (λ set cause. CreateAnswers set c.args.name (Err cause)) c.in-Err.fault c.answered-in-Err.result.answer c.requires.fits.layer c.in-Err.ensures.answers (λ set never. never)
    (ap (λ (done : HostDone). done.answer) c.answered-in-Err.ensures ∙ c.refusal.ensures)
