use Rattle.std.proofs.Common.{◌⊎◌, Err, refl, ap, sym, ◌∙◌}
use Rattle.std.specs.Prelude.{⊤}
use Rattle.file_layer.specs.Answers.{FileAnswers}
use Rattle.file_layer.specs.Changing.{IsDeleted, IsOfOwners, IsTable}
use Rattle.nesc_requests.specs.declared.host.HostAnswer.TheVariants as said
use Rattle.nesc_requests.specs.declared.host.HostCommand.TheVariants.{Delete}
use Rattle.hypervisor.specs.declared.change.HostDone.{HostDone}
use Rattle.hypervisor.proofs.Deleted.{delete_done, delete_taken}
use Rattle.hypervisor.proofs.Done.{not_media, refused, stay_led, stay_still}
use Rattle.hypervisor.proofs.Naming.{named_found, unnamed_found}
use Rattle.hypervisor.proofs.Unnamed.{delete_unnamed}
use Rattle.hypervisor.proofs.commands.delete.Goals as goal

pub returns-in_default-clause-does : goal.returns-in_default-clause-does
returns-in_default-clause-does c =
    refused c.args.attachments.now c.args.queued c.args.files.now c.args.journal.now (Delete c.args.name.now) c.answered.result c.args.files.now c.args.journal.now said.NoFile
    (ap (λ (done : HostDone). done.answer) c.answered.ensures) (ap (λ (done : HostDone). done.change) c.answered.ensures) refl refl
    (λ set places knows functions are. delete_unnamed c.args.files.now.geometry.blocks set functions c.args.name.now
    (unnamed_found c.args.files.now c.args.name.now c.find.result c.find.ensures.found c.in_default.is set places knows))

pub returns-then-is_some-clause-does : goal.returns-then-is_some-clause-does
returns-then-is_some-clause-does c =
    refused c.args.attachments.now c.args.queued c.args.files.now c.args.journal.now (Delete c.args.name.now) c.answered-then-is_some.result c.args.files.now c.args.journal.now said.Attached
    (ap (λ (done : HostDone). done.answer) c.answered-then-is_some.ensures) (ap (λ (done : HostDone). done.change) c.answered-then-is_some.ensures) refl refl
    (λ set places knows functions are.
    let of = named_found c.args.files.now c.args.name.now c.find.result c.find.ensures.found c.in-Some.file c.in-Some.is set places knows in
    delete_taken c.args.attachments.now c.args.queued c.in-Some.file c.function.result c.args.files.now.geometry.blocks set functions c.args.name.now of.0 of.1 are c.function.ensures.some
    (sym c.if-is_some.ensures))

pub returns-in-Ok-clause-does : goal.returns-in-Ok-clause-does
returns-in-Ok-clause-does c =
    delete_done c.args.attachments.now c.args.queued c.in-Some.file c.function.result c.args.files.now c.args.journal.now c.args.name.now c.answered-in-Ok.result c.delete.new.self c.delete.new.journal
    (λ at. IsTable c.args.files.now.geometry at ⊎ IsOfOwners c.args.files.now.geometry c.args.files.now.map c.delete.new.self.map at)
    (named_found c.args.files.now c.args.name.now c.find.result c.find.ensures.found c.in-Some.file c.in-Some.is)
    (ap (λ (done : HostDone). done.answer) c.answered-in-Ok.ensures) (ap (λ (done : HostDone). done.change) c.answered-in-Ok.ensures) c.function.ensures.none
    (sym c.if-is_some.ensures) c.in-Ok.ensures.leads c.in-Ok.ensures.stages

pub returns-in-Ok-clause-stays : goal.returns-in-Ok-clause-stays
returns-in-Ok-clause-stays c =
    stay_led (IsDeleted c.in-Some.file.0) c.args.files.now c.args.journal.now c.delete.new.self c.delete.new.journal c.in-Ok.ensures.leads

pub returns-in-Err-clause-stays : goal.returns-in-Err-clause-stays
returns-in-Err-clause-stays c = stay_still c.args.files.now c.args.journal.now c.delete.new.self c.delete.new.journal c.in-Err.ensures.refused.0 c.in-Err.ensures.refused.1

pub returns-in-Err-clause-read : goal.returns-in-Err-clause-read
returns-in-Err-clause-read c =
    not_media c.args.files.now (λ set cause. FileAnswers {X = Unit {0}} set c.in-Some.file.0 (λ file done. ⊤) (Err cause)) c.in-Err.fault c.answered-in-Err.result.answer c.requires.fits.layer c.in-Err.ensures.answers (λ set never. never)
    (ap (λ (done : HostDone). done.answer) c.answered-in-Err.ensures ∙ c.refusal.ensures)
