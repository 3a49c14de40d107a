use Rattle.std.proofs.Common.{refl, ap, ◌∙◌}
use Rattle.nesc_requests.specs.declared.host.HostAnswer.TheVariants as said
use Rattle.nesc_requests.specs.declared.host.HostCommand.TheVariants.{Get}
use Rattle.hypervisor.specs.Carrying.{refusal_of}
use Rattle.hypervisor.specs.declared.change.HostDone.{HostDone}
use Rattle.hypervisor.proofs.Done.{refused, unchanged}
use Rattle.hypervisor.proofs.Got.{get_refused, got}
use Rattle.hypervisor.proofs.Naming.{named_found, unnamed_found}
use Rattle.hypervisor.proofs.Unnamed.{get_unnamed}
use Rattle.hypervisor.proofs.commands.get.Goals as goal

pub returns-in_default-clause-does : goal.returns-in_default-clause-does
returns-in_default-clause-does g c tells kept keeps =
    refused c.args.attachments.now c.args.queued c.args.files.now c.args.journal.now (Get c.args.name.now c.args.v c.args.into) c.spending.result c.args.files.now c.args.journal.now said.NoFile
    (ap (λ (done : HostDone). done.answer) c.spending.ensures) (ap (λ (done : HostDone). done.change) c.spending.ensures) refl refl
    (λ set places knows functions are. get_unnamed c.args.files.now.geometry.blocks set functions c.args.name.now
    (unnamed_found c.args.files.now c.args.name.now c.find.result c.find.ensures.found c.in_default.is set places knows) c.args.v c.args.into) kept

pub returns-in-Ok-clause-does : goal.returns-in-Ok-clause-does
returns-in-Ok-clause-does g c tells kept keeps set places functions shows are =
    let of = named_found c.args.files.now c.args.name.now c.find.result c.find.ensures.found c.in-Some.file c.in-Some.is set places shows.knows in
    unchanged c.args.attachments.now c.args.queued c.args.files.now c.args.journal.now (Get c.args.name.now c.args.v c.args.into) c.answered.result c.args.files.now c.args.journal.now (said.Got c.get.new.into)
    (ap (λ (done : HostDone). done.answer) c.answered.ensures) (ap (λ (done : HostDone). done.change) c.answered.ensures) refl refl kept set places functions shows are
    (got c.args.files.now.geometry.blocks set functions c.args.name.now c.in-Some.file.0 c.args.v c.args.into of.0 of.1 c.in-Ok.field-0 c.get.new.into (c.in-Ok.ensures.answers set places shows.knows)
    (c.in-Ok.ensures.blocks tells kept set places keeps shows))

pub returns-in-Err-clause-does : goal.returns-in-Err-clause-does
returns-in-Err-clause-does g c tells kept keeps =
    refused c.args.attachments.now c.args.queued c.args.files.now c.args.journal.now (Get c.args.name.now c.args.v c.args.into) c.spending-in-Err.result c.args.files.now c.args.journal.now (refusal_of c.in-Err.fault)
    (ap (λ (done : HostDone). done.answer) c.spending-in-Err.ensures ∙ c.refusal.ensures) (ap (λ (done : HostDone). done.change) c.spending-in-Err.ensures) refl refl
    (λ set places knows functions are.
    let of = named_found c.args.files.now c.args.name.now c.find.result c.find.ensures.found c.in-Some.file c.in-Some.is set places knows in
    get_refused c.args.files.now.geometry.blocks set functions c.args.name.now c.in-Some.file.0 c.args.v c.args.into of.0 of.1 c.in-Err.fault (c.in-Err.ensures.answers set places knows)) kept
