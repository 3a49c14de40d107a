-- How a function loses its file.
use Rattle.std.proofs.Common.{◌≡◌, ◌≢◌, ℕ, ◌+◌, ◌-◌, Bool, true, false, List, [], length, Option, Some, None, refl, sym, ap, ◌∙◌, arith}
use Rattle.std.specs.Prelude.{IfSome, is_some, if◌then◌else◌}
use Rattle.std.specs.Int.{bit_at}
use Rattle.std.proofs.lemmas.Bool.{false≢true}
use Rattle.std.proofs.lemmas.List.{length-map}
use Rattle.nesc_base.specs.declared.block.Block.{Block}
use Rattle.nesc_base.specs.declared.numbers.FileNo.{FileNo}
use Rattle.nesc_base.specs.declared.numbers.FnNo.{FnNo}
use Rattle.nesc_requests.specs.declared.host.HostAnswer.TheVariants as said
use Rattle.nesc_requests.specs.declared.host.HostCommand.TheVariants.{Detach}
use Rattle.nesc_requests.specs.Script.{with_numbered}
use Rattle.file_layer.specs.Knowing.{FileSet}
use Rattle.file_layer.specs.Layer.{Layer}
use Rattle.host_journal.specs.Journal.{Journal}
use Rattle.plain_machine.specs.Functions.{Attached, Function, attached_of, function_at, is_empty, queue_of}
use Rattle.plain_machine.specs.HostCommands.{detached}
use Rattle.hypervisor.specs.Attachments.{AreFunctions, Attachments, file_of}
use Rattle.hypervisor.specs.Carrying.{DoesOver}
use Rattle.hypervisor.specs.declared.change.Change.TheVariants as notice
use Rattle.hypervisor.specs.declared.change.HostDone.{HostDone}
use Rattle.hypervisor.proofs.Attaching.{file_among}
use Rattle.hypervisor.proofs.Carried.{carries_none}
use Rattle.hypervisor.proofs.Done.{IsRefused, does}
use Rattle.hypervisor.proofs.FunctionFiles.{file_alike, files_with, function_file, had_none, had_some, queue_had}

-- what is so of a file that there is
pub when_some : {X P : Type 0} (o : Option X) → IfSome o (λ _. P) → is_some o ≡ true → P
when_some None p is = absurd (false≢true is)
when_some (Some x) p is = p

pub some_file : (o : Option FileNo) → is_some o ≡ true → (file : FileNo) × (o ≡ Some file)
some_file None is = absurd (false≢true is)
some_file (Some file) is = (file, refl)

-- a bit that is not set stands for no request
empty_if_clear : (b : Bool) (bit : ℕ) → bit ≡ (if b then 0 else 1) → bit ≡ 0 → b ≡ true
empty_if_clear true bit is clear = refl
empty_if_clear false bit is clear = absurd (omega (arith, is, clear))

waits_if_set : (b : Bool) (bit : ℕ) → bit ≡ (if b then 0 else 1) → bit ≢ 0 → b ≡ false
waits_if_set true bit is set = absurd (set is)
waits_if_set false bit is set = refl

module _ (attachments : Attachments) (queued : ℕ) (f : FnNo) where
  pub not_attached : (blocks : ℕ) (set : FileSet) (functions : List Function) → AreFunctions attachments queued functions → file_of attachments f.0 ≡ None → IsRefused blocks set functions (Detach f) said.NotAttached
  not_attached blocks set functions are none = record {
    step = ((had_none (attached_of functions f.0) (sym (file_alike attachments functions are.files f.0) ∙ none), refl), refl);
    tells = refl;
  }

  module _ (file : FileNo) (has : file_of attachments f.0 ≡ Some file) where
    -- what the function has, and whether requests wait for it
    module _ (functions : List Function) (are : AreFunctions attachments queued functions) where
      had : (attached : Attached) × (attached_of functions f.0 ≡ Some attached)
      had = had_some (attached_of functions f.0) file (sym (file_alike attachments functions are.files f.0) ∙ has)

      waits : bit_at queued (f.0 - 1) ≡ (if is_empty had.0.queue then 0 else 1)
      waits =
          let among = file_among attachments f.0 file has in
          let many = ap length (sym are.files) ∙ length-map functions function_file in
          let back : f.0 - 1 + 1 ≡ f.0 = omega (arith, among.0) in
          are.queues (f.0 - 1) (omega (arith, among.0, among.1, many))
          ∙ ap (λ (k : ℕ). if is_empty (queue_of (function_at functions k)) then 0 else 1) back
          ∙ ap (λ queue. if is_empty queue then 0 else 1) (queue_had functions f.0 had.0 had.1)

    pub queued_still : (blocks : ℕ) (set : FileSet) (functions : List Function) → AreFunctions attachments queued functions → bit_at queued (f.0 - 1) ≢ 0 → IsRefused blocks set functions (Detach f) said.Queued
    queued_still blocks set functions are set_bit =
        let on = had functions are in
        record {
          step = ((record { attached = on.0; on = on.1; queue = waits_if_set (is_empty on.0.queue) (bit_at queued (f.0 - 1)) (waits functions are) set_bit }, refl), refl);
          tells = refl;
        }

    pub detach_done : (old : Layer) (before : Journal) (done : HostDone) (new : Attachments) → done.answer ≡ said.Ok → done.change ≡ notice.Detached f → bit_at queued (f.0 - 1) ≡ 0
        → new ≡ with_numbered attachments f.0 None → (kept : List Block) → DoesOver kept attachments queued old before (Detach f) done new old before
    detach_done old before done new answered noted clear put kept set places functions shows are =
        let on = had functions are in
        does attachments old before kept set places functions (Detach f) done new old before said.Ok (notice.Detached f) [] answered noted (
          (
            record { attached = on.0; on = on.1; queue = empty_if_clear (is_empty on.0.queue) (bit_at queued (f.0 - 1)) (waits functions are) clear },
            record { after = detached (function_at functions f.0); becomes = refl; others = refl },
          ),
          refl,
        )
        (carries_none old before kept set places old before shows refl refl) refl
        (files_with functions f.0 (detached (function_at functions f.0)) ∙ ap (λ (files : Attachments). with_numbered files f.0 None) are.files ∙ sym put)
