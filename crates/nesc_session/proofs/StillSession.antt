-- A session stays what it is in itself as its functions are served.
use Rattle.std.proofs.Common.{◌≡◌, ℕ, ◌+◌, ◌<◌, ◌≤◌, List, Option, Some, length, sym, ap, ◌∙◌, subst, arith}
use Rattle.std.specs.Prelude.{slice_set}
use Rattle.std.proofs.lemmas.List.{length-set}
use Rattle.std.proofs.lemmas.Option.{none-some}
use Rattle.nesc_base.specs.declared.numbers.FileNo.{FileNo}
use Rattle.nesc_requests.specs.Machine.{IsMachine}
use Rattle.nesc_requests.specs.Script.{numbered, with_numbered}
use Rattle.file_layer.specs.Layer.{IsUsed, Layer}
use Rattle.hypervisor.specs.Attachments.{Attachments, file_of}
use Rattle.image_layout.specs.declared.table.TableEntry.{TableEntry}
use Rattle.request_queues.specs.Queue.{Queue}
use Rattle.plain_machine.specs.declared.setting.Setting.{Setting}
use Rattle.nesc_session.specs.Requests.{HoldsUpTo, Requests}
use Rattle.nesc_session.specs.Resting.{IsIdleWhereOff, IsSession}
use Rattle.nesc_session.specs.declared.session.Session.{Session}
use Rattle.nesc_session.proofs.Idle.{idle_with}
use Rattle.nesc_session.proofs.Items.{each_with, with_item}

-- a file is used by the table alone
used_by_table : (old new : Layer) (n : ℕ) → new.table ≡ old.table → IsUsed old n → IsUsed new n
used_by_table old new n same used = subst (λ (table : List (Option TableEntry)). IsUsed (record new { table = table }) n) (sym same) used

-- as many requests may wait as before, and no more do
pub still_holds : (most : ℕ) (old new : Queue) → HoldsUpTo most old → new.depth ≡ old.depth → length new.requests ≤ length old.requests → HoldsUpTo most new
still_holds most old new holds depth few = record { depth = depth ∙ holds.depth; within = let within = holds.within in omega (arith, within, few) }

module _ (session : Session) (is : IsSession session) where
  -- a function with a file has other requests, and the files are of the same division and table
  module _ (files : Layer) (division : files.geometry ≡ session.files.geometry) (table : files.table ≡ session.files.table)
      (index f : ℕ) (number : f ≡ index + 1) (within : index < length session.requests.items) (file : FileNo) (on : file_of session.attachments f ≡ Some file)
      (requests : Requests) (few : HoldsUpTo session.setting.machine.queue requests.queue) (last : ℕ) (among : last ≤ session.setting.machine.functions) where
    pub session_serves : (new : Session) → new.setting ≡ session.setting → new.files ≡ files → new.attachments ≡ session.attachments → new.requests.items ≡ slice_set session.requests.items index requests → new.last ≡ last → IsSession new
    session_serves new same_setting same_files same_attachments changed taken =
        let these : new.requests.items ≡ with_numbered session.requests.items f requests = changed ∙ with_item session.requests.items f index requests number in
        record {
          machine = subst (λ (setting : Setting). IsMachine setting.machine) (sym same_setting) is.machine;
          division = ap (λ (those : Layer). those.geometry) same_files ∙ division ∙ is.division ∙ sym (ap (λ (setting : Setting). setting.geometry) same_setting);
          attachments = ap length same_attachments ∙ is.attachments ∙ sym (ap (λ (setting : Setting). setting.machine.functions) same_setting);
          functions = ap length changed ∙ length-set session.requests.items index requests ∙ is.functions ∙ sym (ap (λ (setting : Setting). setting.machine.functions) same_setting);
          last = omega (arith, taken, among, ap (λ (setting : Setting). setting.machine.functions) same_setting);
          used = λ g other there. used_by_table session.files new.files other.0 (ap (λ (those : Layer). those.table) same_files ∙ table) (is.used g other (ap (λ (those : Attachments). file_of those g) (sym same_attachments) ∙ there));
          idle = subst (λ (those : Attachments). IsIdleWhereOff those new.requests.items) (sym same_attachments) (subst (IsIdleWhereOff session.attachments) (sym these)
              (idle_with session.attachments session.requests.items f requests (λ off. absurd (none-some file (sym off ∙ on))) is.idle));
          few = λ g one there.
              subst (λ (setting : Setting). HoldsUpTo setting.machine.queue one.queue) (sym same_setting)
              (each_with (λ _ (some : Requests). HoldsUpTo session.setting.machine.queue some.queue) session.requests.items f requests few is.few g one (ap (λ (all : List Requests). numbered all g) (sym these) ∙ there));
        }
