-- A session stays what it is in itself over a command of the host.
use Rattle.std.proofs.Common.{◌≡◌, ℕ, ◌+◌, ◌-◌, cond, List, [], ◌∷◌, length, Option, None, Some, refl, sym, ap, ◌∙◌, arith}
use Rattle.nesc_base.specs.declared.numbers.FileNo.{FileNo}
use Rattle.nesc_requests.specs.declared.request.Queued.{Queued}
use Rattle.nesc_requests.specs.Script.{numbered}
use Rattle.file_layer.specs.Layer.{Layer}
use Rattle.host_journal.specs.Journal.{Journal}
use Rattle.hypervisor.specs.Attachments.{AreQueued, Attachments, file_of}
use Rattle.hypervisor.specs.Carrying.{KeepsUsed, OnlyIdleGo}
use Rattle.hypervisor.proofs.Numbering.{numbered_within}
use Rattle.plain_machine.specs.Functions.{function_at, is_empty, queue_of}
use Rattle.nesc_session.specs.Requests.{Requests}
use Rattle.nesc_session.specs.Resting.{IsSession, functions_in}
use Rattle.nesc_session.specs.declared.session.Session.{Session}
use Rattle.nesc_session.proofs.MadeFunctions.{length_functions}
use Rattle.nesc_session.proofs.SessionFunctions.{as_many, queue_in}

-- where no bit is set, none waits
none_queued : (queue : List Queued) → 0 ≡ cond {A = ℕ} (is_empty queue) 0 1 → length queue ≡ 0
none_queued [] none = refl
none_queued (head ∷ rest) none = absurd (omega arith)

-- the session with the files, the journal and the files of functions that the host leaves
abbrev pub hosted : Session → Layer → Journal → Attachments → Session
hosted session files journal attachments = record session { files = files; journal = journal; attachments = attachments }

module _ (session : Session) (is : IsSession session) (attachments : Attachments) (queued : ℕ) (waits : AreQueued queued (functions_in session)) (goes : OnlyIdleGo queued session.attachments attachments) where
  -- a function that has lost its file had no requests
  idle_still : (f : ℕ) (requests : Requests) → numbered session.requests.items f ≡ Some requests → file_of attachments f ≡ None → length requests.queue.requests ≡ 0
  idle_still f requests at off = had (file_of session.attachments f) refl
    where
      had : (o : Option FileNo) → file_of session.attachments f ≡ o → length requests.queue.requests ≡ 0
      had None none = is.idle f requests at none
      had (Some file) on =
          let within = numbered_within session.requests.items f requests at in
          let long = length_functions session.attachments session.requests.items (as_many session is) in
          let next : f - 1 + 1 ≡ f = omega (arith, within.0) in
          none_queued requests.queue.requests (sym (goes f file on off) ∙ waits (f - 1) (omega (arith, within.0, within.1, long))
          ∙ ap (λ n. cond {A = ℕ} (is_empty (queue_of (function_at (functions_in session) n))) 0 1) next
          ∙ ap (λ queue. cond {A = ℕ} (is_empty queue) 0 1) (queue_in session is f requests at))

  pub session_hosts : (files : Layer) (journal : Journal) → files.geometry ≡ session.files.geometry → length attachments ≡ length session.attachments → KeepsUsed session.attachments session.files attachments files
      → IsSession (hosted session files journal attachments)
  session_hosts files journal division many used = record {
    machine = is.machine;
    division = division ∙ is.division;
    attachments = many ∙ is.attachments;
    functions = is.functions;
    last = is.last;
    used = used is.used;
    idle = idle_still;
    few = is.few;
  }
