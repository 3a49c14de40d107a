-- What a session is in itself, after one function has other requests.
use Rattle.std.proofs.Common.{◌≡◌, ℕ, ◌≤◌, List, length, Some, sym, ap, ◌∙◌, subst}
use Rattle.nesc_requests.specs.Machine.{IsMachine}
use Rattle.nesc_requests.specs.Script.{numbered, with_numbered}
use Rattle.file_layer.specs.Layer.{IsUsed}
use Rattle.hypervisor.specs.Attachments.{Attachments, file_of}
use Rattle.hypervisor.proofs.Numbering.{length_numbered}
use Rattle.plain_machine.specs.declared.setting.Setting.{Setting}
use Rattle.nesc_session.specs.Requests.{HoldsUpTo, Requests}
use Rattle.nesc_session.specs.Resting.{IsIdleWhereOff, IsSession}
use Rattle.nesc_session.specs.declared.session.Session.{Session}
use Rattle.nesc_session.proofs.Idle.{IsIdleIfOff, idle_with}
use Rattle.nesc_session.proofs.Items.{each_with}

-- as many functions have a file or none as have requests
pub as_many : (session : Session) → IsSession session → length session.attachments ≡ length session.requests.items
as_many session sound = sound.attachments ∙ sym sound.functions

-- the same machine with the same files of functions, over files that are divided so and of which no number has gone
module _ (old new : Session) (sound : IsSession old) (same_setting : new.setting ≡ old.setting) (same_attachments : new.attachments ≡ old.attachments)
    (same_division : new.files.geometry ≡ old.files.geometry) (used : (n : ℕ) → IsUsed old.files n → IsUsed new.files n)
    (last : new.last ≤ old.setting.machine.functions) where
  -- whatever requests they have then
  session_sound : length new.requests.items ≡ length old.requests.items → IsIdleWhereOff old.attachments new.requests.items
      → ((f : ℕ) (requests : Requests) → numbered new.requests.items f ≡ Some requests → HoldsUpTo old.setting.machine.queue requests.queue) → IsSession new
  session_sound count idle few = record {
    machine = subst (λ (setting : Setting). IsMachine setting.machine) (sym same_setting) sound.machine;
    division = same_division ∙ sound.division ∙ ap (λ (setting : Setting). setting.geometry) (sym same_setting);
    attachments = ap length same_attachments ∙ sound.attachments ∙ ap (λ (setting : Setting). setting.machine.functions) (sym same_setting);
    functions = count ∙ sound.functions ∙ ap (λ (setting : Setting). setting.machine.functions) (sym same_setting);
    last = subst (λ (setting : Setting). new.last ≤ setting.machine.functions) (sym same_setting) last;
    used = λ f file at. used file.0 (sound.used f file (ap (λ (those : Attachments). file_of those f) (sym same_attachments) ∙ at));
    idle = subst (λ (those : Attachments). IsIdleWhereOff those new.requests.items) (sym same_attachments) idle;
    few = λ f requests at. subst (λ (setting : Setting). HoldsUpTo setting.machine.queue requests.queue) (sym same_setting) (few f requests at);
  }

  -- the same
  pub session_stays : new.requests.items ≡ old.requests.items → IsSession new
  session_stays same =
      session_sound (ap length same) (subst (IsIdleWhereOff old.attachments) (sym same) sound.idle)
      (λ f requests at. sound.few f requests (ap (λ (those : List Requests). numbered those f) (sym same) ∙ at))

  -- others of one function
  pub session_with : (f : ℕ) (requests : Requests) → new.requests.items ≡ with_numbered old.requests.items f requests → HoldsUpTo old.setting.machine.queue requests.queue
      → IsIdleIfOff (file_of old.attachments f) requests → IsSession new
  session_with f requests are few idle =
      session_sound (ap length are ∙ length_numbered old.requests.items f requests)
      (subst (IsIdleWhereOff old.attachments) (sym are) (idle_with old.attachments old.requests.items f requests idle sound.idle))
      (λ g one at. each_with (λ _ (some : Requests). HoldsUpTo old.setting.machine.queue some.queue) old.requests.items f requests few sound.few g one (ap (λ (those : List Requests). numbered those g) (sym are) ∙ at))
