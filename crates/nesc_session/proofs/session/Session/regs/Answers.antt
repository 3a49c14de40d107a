use Rattle.std.proofs.Common.{◌≡◌, Option, None, Some, List, length, sym, ap, ◌∙◌, subst}
use Rattle.nesc_base.specs.Files.{file_at}
use Rattle.nesc_requests.specs.declared.host.HostAnswer.TheVariants.{Regs}
use Rattle.nesc_requests.specs.declared.request.Miss.{Miss}
use Rattle.plain_machine.specs.Functions.{pending}
use Rattle.plain_machine.specs.HostCommands.{registers}
use Rattle.nesc_session.specs.Requests.{Requests, functions_of}
use Rattle.nesc_session.specs.Resting.{IsIdleWhereOff, functions_in}
use Rattle.nesc_session.proofs.Items.{numbered_item}
use Rattle.nesc_session.proofs.Served.{length_found}
use Rattle.nesc_session.proofs.SessionFunctions.{as_many, attached_off, attached_on}
use Rattle.nesc_session.proofs.session.Session.regs.Goals.{in-None, in-Some-waiting}
use Rattle.nesc_session.proofs.session.Session.regs.Goals as goal

pub returns-in_default-clause-answers : goal.returns-in_default-clause-answers
returns-in_default-clause-answers c set places knows = attached_off c.args.self.now c.requires.session c.args.f.0 c.in_default.ensures.none

pub returns-clause-answers : goal.returns-clause-answers
returns-clause-answers c set places knows =
    let session = c.args.self.now in
    let found = c.in-Some.ensures.some in
    let requests : Requests = c.index.result.now in
    let at = numbered_item session.requests.items c.args.f.0 c.in-Some.index requests found.1 found.0 c.index.ensures in
    let size = length_found set c.in-Some.file.0 c.length.result c.unwrap_or-size.result c.unwrap_or-size.ensures (c.length.ensures.answers set places knows) in
    let wait : c.pending.result ≡ pending (functions_in session) =
    c.pending.ensures session.attachments (as_many session c.requires.session ∙ ap length (sym c.deref.ensures.value)) (subst (IsIdleWhereOff session.attachments) (sym c.deref.ensures.value) c.requires.session.idle)
    ∙ ap (λ (all : List Requests). pending (functions_of session.attachments all)) c.deref.ensures.value in
    let seen : c.behind-self.inside.waiting ≡ requests.waiting = ap (λ (one : Requests). one.waiting) c.behind-self.view_is in
    let shown = λ (waiting : Option Miss) (is : c.behind-self.inside.waiting ≡ waiting).
    ap (λ (o : Option Miss). registers (file_at set c.in-Some.file.0).length o (pending (functions_in session))) (sym is ∙ seen) in
    record {
      attached = record { file = c.in-Some.file.0; queue = requests.queue.requests; done = requests.queue.done; waiting = requests.waiting };
      on = attached_on session c.requires.session c.args.f.0 requests at c.in-Some.file found.2;
      shown = elim c.match-index.branch [
        | in-None w ↦
            let block = w.block-is in
            (λ i. Regs (size i) (block i).0 (block i).1 (block i).2 (wait i)) ∙ shown None w.in-None.is
        | in-Some-waiting w ↦
            let block = w.block-is in
            let miss : Miss = w.in-Some-waiting.miss in
            let kind = w.kind_number.ensures in
            (λ i. Regs (size i) (block i).0 (block i).1 (block i).2 (wait i))
            ∙ ap (λ k. Regs (file_at set c.in-Some.file.0).length miss.v miss.n k (pending (functions_in session))) kind
            ∙ shown (Some miss) w.in-Some-waiting.is
      ];
    }
