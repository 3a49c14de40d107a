use Rattle.std.proofs.Common.{Some, refl, ap, sym, ◌∙◌, subst}
use Rattle.std.specs.Prelude.{unwrap_or}
use Rattle.std.proofs.lemmas.Option.{same_Some}
use Rattle.nesc_base.specs.declared.numbers.FileNo.{FileNo}
use Rattle.nesc_requests.specs.declared.host.HostAnswer.TheVariants as said
use Rattle.nesc_requests.specs.declared.host.HostCommand.TheVariants.{Attach}
use Rattle.file_layer.specs.Layer.{IsUsed}
use Rattle.hypervisor.specs.Attachments.{Attachments}
use Rattle.hypervisor.specs.Carrying.{KeepsUsed, OnlyIdleGo}
use Rattle.hypervisor.specs.declared.change.HostDone.{HostDone}
use Rattle.hypervisor.proofs.Attached.{attach_done, file_taken, function_taken}
use Rattle.hypervisor.proofs.Attaching.{idle_with, off_among, used_with}
use Rattle.hypervisor.proofs.Done.{refused}
use Rattle.hypervisor.proofs.Naming.{named_found, unnamed_found}
use Rattle.hypervisor.proofs.Unnamed.{attach_unnamed}
use Rattle.hypervisor.proofs.commands.attach.Goals as goal

pub returns-in_default-clause-does : goal.returns-in_default-clause-does
returns-in_default-clause-does c =
    refused c.args.attachments.now c.args.queued c.args.files.now c.args.journal.now (Attach c.args.f c.args.name.now) c.answered.result c.args.files.now c.args.journal.now said.NoFile
    (ap (λ (done : HostDone). done.answer) c.answered.ensures) (ap (λ (done : HostDone). done.change) c.answered.ensures) refl refl
    (λ set places knows functions are. attach_unnamed c.args.files.now.geometry.blocks set functions c.args.name.now
    (unnamed_found c.args.files.now c.args.name.now c.find.result c.find.ensures.found c.in_default.is set places knows) c.args.f)

pub returns-then-not-is_off-clause-does : goal.returns-then-not-is_off-clause-does
returns-then-not-is_off-clause-does c =
    refused c.args.attachments.now c.args.queued c.args.files.now c.args.journal.now (Attach c.args.f c.args.name.now) c.answered-then-not-is_off.result c.args.files.now c.args.journal.now said.FunctionTaken
    (ap (λ (done : HostDone). done.answer) c.answered-then-not-is_off.ensures) (ap (λ (done : HostDone). done.change) c.answered-then-not-is_off.ensures) refl refl
    (λ set places knows functions are.
    let of = named_found c.args.files.now c.args.name.now c.find.result c.find.ensures.found c.in-Some.file c.in-Some.is set places knows in
    function_taken c.args.attachments.now c.args.queued c.args.f c.in-Some.file c.args.name.now c.args.files.now.geometry.blocks set functions are of.0 of.1 (sym c.if-not-is_off.ensures))

pub returns-then-is_some-clause-does : goal.returns-then-is_some-clause-does
returns-then-is_some-clause-does c =
    refused c.args.attachments.now c.args.queued c.args.files.now c.args.journal.now (Attach c.args.f c.args.name.now) c.answered-then-is_some.result c.args.files.now c.args.journal.now said.FileTaken
    (ap (λ (done : HostDone). done.answer) c.answered-then-is_some.ensures) (ap (λ (done : HostDone). done.change) c.answered-then-is_some.ensures) refl refl
    (λ set places knows functions are.
    let of = named_found c.args.files.now c.args.name.now c.find.result c.find.ensures.found c.in-Some.file c.in-Some.is set places knows in
    file_taken c.args.attachments.now c.args.queued c.args.f c.in-Some.file c.args.name.now c.args.files.now.geometry.blocks set functions are of.0 of.1 c.function.result (sym c.if-not-is_off.ensures) c.function.ensures.some
    (sym c.if-is_some.ensures))

pub set-requires-clause-among : goal.set-requires-clause-among
set-requires-clause-among c = (off_among c.args.attachments.now c.args.f.0 (sym c.if-not-is_off.ensures)).1

pub returns-clause-does : goal.returns-clause-does
returns-clause-does c =
    attach_done c.args.attachments.now c.args.queued c.args.f c.in-Some.file c.args.name.now c.function.result c.args.files.now c.args.journal.now _ c.set.new.self c.unwrap_or.result
    (named_found c.args.files.now c.args.name.now c.find.result c.find.ensures.found c.in-Some.file c.in-Some.is) refl refl (sym c.if-not-is_off.ensures) c.function.ensures.none (sym c.if-is_some.ensures) c.set.ensures
    (λ set places knows. c.unwrap_or.ensures ∙ ap (λ o. unwrap_or o 0) (c.length.ensures.answers set places knows))

pub returns-clause-used : goal.returns-clause-used
returns-clause-used c =
    let among = off_among c.args.attachments.now c.args.f.0 (sym c.if-not-is_off.ensures) in
    subst (λ (new : Attachments). KeepsUsed c.args.attachments.now c.args.files.now new c.args.files.now) (sym c.set.ensures)
    (used_with c.args.attachments.now c.args.f.0 (Some c.in-Some.file) among.0 among.1 c.args.files.now
    (λ other is. subst (λ (file : FileNo). IsUsed c.args.files.now file.0) (same_Some c.in-Some.file other is) c.in-Some.ensures.used))

pub returns-clause-idle : goal.returns-clause-idle
returns-clause-idle c =
    let among = off_among c.args.attachments.now c.args.f.0 (sym c.if-not-is_off.ensures) in
    subst (OnlyIdleGo c.args.queued c.args.attachments.now) (sym c.set.ensures)
    (idle_with c.args.attachments.now c.args.f.0 (Some c.in-Some.file) among.0 among.1 c.args.queued (λ none. absurd cc))
