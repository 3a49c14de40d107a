-- How a file goes.
use Rattle.std.proofs.Common.{◌≡◌, ℕ, true, false, List, [], ◌∷◌, Option, refl}
use Rattle.std.specs.Prelude.{is_some}
use Rattle.nesc_base.specs.declared.block.Block.{Block}
use Rattle.nesc_base.specs.declared.numbers.FileNo.{FileNo}
use Rattle.nesc_base.specs.declared.numbers.FnNo.{FnNo}
use Rattle.nesc_base.specs.Files.{File}
use Rattle.nesc_requests.specs.declared.host.HostAnswer.TheVariants as said
use Rattle.nesc_requests.specs.declared.host.HostCommand.TheVariants.{Delete}
use Rattle.file_layer.specs.Changing.{IsDeleted, Leads, Stages}
use Rattle.file_layer.specs.Knowing.{FileSet, OfFiles}
use Rattle.file_layer.specs.Layer.{Layer}
use Rattle.file_model.specs.Files.{HasName, delete}
use Rattle.host_journal.specs.Journal.{Journal}
use Rattle.plain_machine.specs.Functions.{Function}
use Rattle.hypervisor.specs.Attachments.{AreFunctions, Attachments}
use Rattle.hypervisor.specs.Carrying.{DoesOver}
use Rattle.hypervisor.specs.declared.change.Change.TheVariants.{Nothing}
use Rattle.hypervisor.specs.declared.change.HostDone.{HostDone}
use Rattle.hypervisor.proofs.Carried.{carries_delete}
use Rattle.hypervisor.proofs.Done.{IsRefused, does}
use Rattle.hypervisor.proofs.FunctionFiles.{HasIt, NoneHasIt, taken_found, untaken_found}

module _ (attachments : Attachments) (queued : ℕ) (file : FileNo) (found : Option FnNo) where
  pub delete_taken : (blocks : ℕ) (set : FileSet) (functions : List Function) (name : List ℕ) (of : File) → HasName set name file.0 of → AreFunctions attachments queued functions → HasIt attachments file found → is_some found ≡ true
      → IsRefused blocks set functions (Delete name) said.Attached
  delete_taken blocks set functions name of named are some is = record {
    step = ((record { number = file.0; file = of; named = named; taken = taken_found attachments functions are.files file found some is }, refl), refl);
    tells = refl;
  }

  pub delete_done : (old : Layer) (before : Journal) (name : List ℕ) (done : HostDone) (new : Layer) (after : Journal) (places_named : ℕ → Type 0) → OfFiles old (λ set _. (of : File) × HasName set name file.0 of)
      → done.answer ≡ said.Ok → done.change ≡ Nothing → NoneHasIt attachments file found → is_some found ≡ false → Leads (IsDeleted file.0) old before new after → Stages places_named 0 before after
      → (kept : List Block) → DoesOver kept attachments queued old before (Delete name) done attachments new after
  delete_done old before name done new after places_named named answered noted none is leads stages kept set places functions shows are =
      let of = named set places shows.knows in
      does attachments old before kept set places functions (Delete name) done attachments new after said.Ok Nothing (delete file.0 ∷ []) answered noted
      (record { number = file.0; file = of.0; named = of.1; unused = untaken_found attachments functions are.files file found none is; gone = refl }, refl)
      (carries_delete old before kept set places new after shows file.0 places_named leads stages) refl are.files
