use Rattle.std.proofs.Common.{◌⊎◌, Err, length, refl, ap, ◌∙◌}
use Rattle.file_layer.specs.Answers.{HoldAnswers}
use Rattle.file_layer.specs.Changing.{ArePut, IsOfBlocks, IsOfOwners}
use Rattle.file_layer.specs.Layer.{area_of}
use Rattle.nesc_requests.specs.declared.host.HostAnswer.TheVariants as said
use Rattle.nesc_requests.specs.declared.host.HostCommand.TheVariants.{Put}
use Rattle.hypervisor.specs.Carrying.{refusal_of}
use Rattle.hypervisor.specs.declared.change.HostDone.{HostDone}
use Rattle.hypervisor.proofs.Done.{not_media, refused, stay_led, stay_still}
use Rattle.hypervisor.proofs.Held.{put_done, put_refused}
use Rattle.hypervisor.proofs.Naming.{found_entered, named_found, unnamed_found}
use Rattle.hypervisor.proofs.Unnamed.{put_unnamed}
use Rattle.hypervisor.proofs.commands.put.Goals as goal

pub returns-in_default-clause-does : goal.returns-in_default-clause-does
returns-in_default-clause-does c =
    refused c.args.attachments.now c.args.queued c.args.files.now c.args.journal.now (Put c.args.name.now c.args.v c.args.blocks) c.spending.result c.args.files.now c.args.journal.now said.NoFile
    (ap (λ (done : HostDone). done.answer) c.spending.ensures) (ap (λ (done : HostDone). done.change) c.spending.ensures) refl refl
    (λ set places knows functions are. put_unnamed c.args.files.now.geometry.blocks set functions c.args.name.now
    (unnamed_found c.args.files.now c.args.name.now c.find.result c.find.ensures.found c.in_default.is set places knows) c.args.v c.args.blocks)

pub put-requires-clause-room : goal.put-requires-clause-room
put-requires-clause-room c = c.requires.room c.in-Some.file.0 (found_entered c.args.files.now c.args.name.now c.find.result c.find.ensures.found c.requires.fits.layer c.in-Some.file c.in-Some.is)

pub returns-in-Ok-clause-does : goal.returns-in-Ok-clause-does
returns-in-Ok-clause-does c =
    put_done c.args.attachments.now c.args.queued c.in-Some.file c.function.result c.args.files.now c.args.journal.now c.args.name.now c.args.v c.in-Ok.newly _ c.remapped.result c.put.new.self c.put.new.journal
    (λ at. IsOfOwners c.args.files.now.geometry c.args.files.now.map c.put.new.self.map at ⊎ IsOfBlocks c.put.new.self.map c.in-Some.file.0 c.args.v (length c.args.blocks) at) c.requires.fits.layer
    (named_found c.args.files.now c.args.name.now c.find.result c.find.ensures.found c.in-Some.file c.in-Some.is)
    c.function.ensures.sound c.function.ensures.some c.function.ensures.none refl refl c.remapped.ensures c.args.blocks c.in-Ok.ensures.answers c.in-Ok.ensures.leads c.in-Ok.ensures.stages

pub returns-in-Ok-clause-stays : goal.returns-in-Ok-clause-stays
returns-in-Ok-clause-stays c =
    stay_led (ArePut (area_of c.args.files.now.geometry) c.in-Some.file.0 c.args.v c.args.blocks) c.args.files.now c.args.journal.now c.put.new.self c.put.new.journal c.in-Ok.ensures.leads

pub returns-in-Err-clause-does : goal.returns-in-Err-clause-does
returns-in-Err-clause-does c =
    refused c.args.attachments.now c.args.queued c.args.files.now c.args.journal.now (Put c.args.name.now c.args.v c.args.blocks) c.spending-in-Err.result c.put.new.self c.put.new.journal (refusal_of c.in-Err.fault)
    (ap (λ (done : HostDone). done.answer) c.spending-in-Err.ensures ∙ c.refusal.ensures) (ap (λ (done : HostDone). done.change) c.spending-in-Err.ensures) c.in-Err.ensures.refused.0 c.in-Err.ensures.refused.1
    (λ set places knows functions are.
    let of = named_found c.args.files.now c.args.name.now c.find.result c.find.ensures.found c.in-Some.file c.in-Some.is set places knows in
    put_refused c.args.files.now.geometry.blocks set functions c.args.name.now c.in-Some.file.0 c.args.v of.0 of.1 c.args.blocks c.in-Err.fault (c.in-Err.ensures.answers set places knows))

pub returns-in-Err-clause-stays : goal.returns-in-Err-clause-stays
returns-in-Err-clause-stays c = stay_still c.args.files.now c.args.journal.now c.put.new.self c.put.new.journal c.in-Err.ensures.refused.0 c.in-Err.ensures.refused.1

pub returns-in-Err-clause-read : goal.returns-in-Err-clause-read
returns-in-Err-clause-read c =
    not_media c.args.files.now (λ set cause. HoldAnswers c.args.files.now.geometry.blocks set c.in-Some.file.0 c.args.v (length c.args.blocks) (Err cause)) c.in-Err.fault c.spending-in-Err.result.answer c.requires.fits.layer
    c.in-Err.ensures.answers (λ set never. never) (ap (λ (done : HostDone). done.answer) c.spending-in-Err.ensures ∙ c.refusal.ensures)
