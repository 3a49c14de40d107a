use Rattle.std.proofs.Common.{◌-◌, None, refl, ap, sym, ◌∙◌, subst, arith}
use Rattle.std.specs.Prelude.{◌≤◌}
use Rattle.std.proofs.lemmas.Nat.Bits.{shr_and_one}
use Rattle.nesc_requests.specs.declared.host.HostAnswer.TheVariants as said
use Rattle.nesc_requests.specs.declared.host.HostCommand.TheVariants.{Detach}
use Rattle.nesc_requests.specs.Machine.{most_functions}
use Rattle.file_layer.proofs.FileChanges.{none_if}
use Rattle.hypervisor.specs.Attachments.{Attachments}
use Rattle.hypervisor.specs.Carrying.{KeepsUsed, OnlyIdleGo}
use Rattle.hypervisor.specs.declared.change.HostDone.{HostDone}
use Rattle.hypervisor.proofs.Attaching.{file_among, idle_with, used_with}
use Rattle.hypervisor.proofs.Detached.{detach_done, not_attached, queued_still, some_file, when_some}
use Rattle.hypervisor.proofs.Done.{refused}
use Rattle.hypervisor.proofs.commands.detach.Goals as goal

pub returns-then-is_none-clause-does : goal.returns-then-is_none-clause-does
returns-then-is_none-clause-does c =
    refused c.args.attachments.now c.args.queued c.args.files.now c.args.journal.now (Detach c.args.f) c.answered.result c.args.files.now c.args.journal.now said.NotAttached
    (ap (λ (done : HostDone). done.answer) c.answered.ensures) (ap (λ (done : HostDone). done.change) c.answered.ensures) refl refl
    (λ set places knows functions are. not_attached c.args.attachments.now c.args.queued c.args.f c.args.files.now.geometry.blocks set functions are
    (sym c.file.ensures.file ∙ none_if c.file.result c.if-is_none.ensures))

pub overflow_shr-queued : goal.overflow_shr-queued
overflow_shr-queued c =
    let few : c.args.f.0 ≤ most_functions = when_some c.file.result c.file.ensures.few c.if-is_none.ensures in
    omega (arith, few)

pub returns-then-queued-f-ne0-clause-does : goal.returns-then-queued-f-ne0-clause-does
returns-then-queued-f-ne0-clause-does c =
    let file = some_file c.file.result c.if-is_none.ensures in
    refused c.args.attachments.now c.args.queued c.args.files.now c.args.journal.now (Detach c.args.f) c.answered-then-queued-f-ne0.result c.args.files.now c.args.journal.now said.Queued
    (ap (λ (done : HostDone). done.answer) c.answered-then-queued-f-ne0.ensures) (ap (λ (done : HostDone). done.change) c.answered-then-queued-f-ne0.ensures) refl refl
    (λ set places knows functions are. queued_still c.args.attachments.now c.args.queued c.args.f file.0 (sym c.file.ensures.file ∙ file.1) c.args.files.now.geometry.blocks set functions are
    (λ clear. c.if-queued-f-ne0.true (shr_and_one c.args.queued (c.args.f.0 - 1) ∙ clear)))

pub set-requires-clause-among : goal.set-requires-clause-among
set-requires-clause-among c =
    let file = some_file c.file.result c.if-is_none.ensures in
    (file_among c.args.attachments.now c.args.f.0 file.0 (sym c.file.ensures.file ∙ file.1)).1

pub returns-clause-does : goal.returns-clause-does
returns-clause-does c =
    let file = some_file c.file.result c.if-is_none.ensures in
    detach_done c.args.attachments.now c.args.queued c.args.f file.0 (sym c.file.ensures.file ∙ file.1) c.args.files.now c.args.journal.now _ c.set.new.self refl refl
    (sym (shr_and_one c.args.queued (c.args.f.0 - 1)) ∙ c.if-queued-f-ne0.false) c.set.ensures

pub returns-clause-used : goal.returns-clause-used
returns-clause-used c =
    let file = some_file c.file.result c.if-is_none.ensures in
    let among = file_among c.args.attachments.now c.args.f.0 file.0 (sym c.file.ensures.file ∙ file.1) in
    subst (λ (new : Attachments). KeepsUsed c.args.attachments.now c.args.files.now new c.args.files.now) (sym c.set.ensures)
    (used_with c.args.attachments.now c.args.f.0 None among.0 among.1 c.args.files.now (λ other is. absurd cc))

pub returns-clause-idle : goal.returns-clause-idle
returns-clause-idle c =
    let file = some_file c.file.result c.if-is_none.ensures in
    let among = file_among c.args.attachments.now c.args.f.0 file.0 (sym c.file.ensures.file ∙ file.1) in
    subst (OnlyIdleGo c.args.queued c.args.attachments.now) (sym c.set.ensures)
    (idle_with c.args.attachments.now c.args.f.0 None among.0 among.1 c.args.queued (λ none. sym (shr_and_one c.args.queued (c.args.f.0 - 1)) ∙ c.if-queued-f-ne0.false))
