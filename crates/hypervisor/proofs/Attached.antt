-- How a function gets a file, and loses it.
use Rattle.std.proofs.Common.{◌≡◌, ℕ, true, false, List, [], Option, Some, option_map, refl, sym, ap, ◌∙◌}
use Rattle.std.specs.Prelude.{is_some, unwrap_or}
use Rattle.std.specs.FinMap.{get}
use Rattle.nesc_base.specs.declared.block.Block.{Block}
use Rattle.nesc_base.specs.declared.numbers.FileNo.{FileNo}
use Rattle.nesc_base.specs.declared.numbers.FnNo.{FnNo}
use Rattle.nesc_base.specs.Files.{File}
use Rattle.nesc_requests.specs.declared.host.HostAnswer.TheVariants as said
use Rattle.nesc_requests.specs.declared.host.HostCommand.TheVariants.{Attach}
use Rattle.nesc_requests.specs.Script.{with_numbered}
use Rattle.file_layer.specs.Knowing.{FileSet, OfFiles}
use Rattle.file_layer.specs.Layer.{Layer}
use Rattle.file_model.specs.Files.{HasName}
use Rattle.host_journal.specs.Journal.{Journal}
use Rattle.plain_machine.specs.Functions.{Function, function_at}
use Rattle.plain_machine.specs.HostCommands.{attached_to}
use Rattle.hypervisor.specs.Attachments.{AreFunctions, Attachments, file_numbers, file_of, is_off_in}
use Rattle.hypervisor.specs.Carrying.{DoesOver}
use Rattle.hypervisor.specs.Telling.{told}
use Rattle.hypervisor.specs.declared.change.Change.TheVariants as notice
use Rattle.hypervisor.specs.declared.change.HostDone.{HostDone}
use Rattle.hypervisor.proofs.Attaching.{file_same, off_among}
use Rattle.hypervisor.proofs.Carried.{carries_none}
use Rattle.hypervisor.proofs.Done.{IsRefused, does}
use Rattle.hypervisor.proofs.FunctionFiles.{HasIt, NoneHasIt, files_with, off_alike, taken_found, untaken_found}

-- the length of a file that is there
length_there : (file : File) (o : Option File) (long : ℕ) → o ≡ Some file → long ≡ unwrap_or (option_map (λ (held : File). held.length) o) 0 → long ≡ file.length
length_there file o long there is = is ∙ ap (λ (p : Option File). unwrap_or (option_map (λ (held : File). held.length) p) 0) there

module _ (attachments : Attachments) (queued : ℕ) (f : FnNo) (file : FileNo) (name : List ℕ) where
  module _ (blocks : ℕ) (set : FileSet) (functions : List Function) (are : AreFunctions attachments queued functions) (of : File) (named : HasName set name file.0 of) where
    pub function_taken : is_off_in attachments f.0 ≡ false → IsRefused blocks set functions (Attach f name) said.FunctionTaken
    function_taken on = record { step = (((file.0, of, named), off_alike attachments functions are.files f.0 ∙ on, refl), refl); tells = refl }

    pub file_taken : (found : Option FnNo) → is_off_in attachments f.0 ≡ true → HasIt attachments file found → is_some found ≡ true → IsRefused blocks set functions (Attach f name) said.FileTaken
    file_taken found off some is = record {
      step = (
        (
          off_alike attachments functions are.files f.0 ∙ off,
          record { number = file.0; file = of; named = named; taken = taken_found attachments functions are.files file found some is },
          refl,
        ),
        refl,
      );
      tells = refl;
    }

  -- the functions that the device has then
  given : (attached : Attachments) (functions : List Function) (long : ℕ) → file_of attached f.0 ≡ Some file
      → told (notice.Attached f long) attached functions ≡ with_numbered functions f.0 (attached_to (function_at functions f.0) file.0)
  given attached functions long has = ap (λ (o : Option FileNo). with_numbered functions f.0 (attached_to (function_at functions f.0) (unwrap_or o (record { 0 = 0 })).0)) has

  pub attach_done : (found : Option FnNo) (old : Layer) (before : Journal) (done : HostDone) (attached : Attachments) (long : ℕ) → OfFiles old (λ set _. (of : File) × HasName set name file.0 of)
      → done.answer ≡ said.Ok → done.change ≡ notice.Attached f long → is_off_in attachments f.0 ≡ true → NoneHasIt attachments file found → is_some found ≡ false → attached ≡ with_numbered attachments f.0 (Some file)
      → OfFiles old (λ set _. long ≡ unwrap_or (option_map (λ (held : File). held.length) (get set file.0)) 0)
      → (kept : List Block) → DoesOver kept attachments queued old before (Attach f name) done attached old before
  attach_done found old before done attached long named answered noted off none is put lengths kept set places functions shows are =
      let of = named set places shows.knows in
      let among = off_among attachments f.0 off in
      let has : file_of attached f.0 ≡ Some file = ap (λ (files : Attachments). file_of files f.0) put ∙ file_same attachments f.0 (Some file) among.0 among.1 f.0 refl in
      let now = given attached functions long has in
      does attachments old before kept set places functions (Attach f name) done attached old before said.Ok (notice.Attached f long) [] answered noted (
        record {
          number = file.0;
          file = of.0;
          named = of.1;
          off = off_alike attachments functions are.files f.0 ∙ off;
          unused = untaken_found attachments functions are.files file found none is;
          given = record { after = attached_to (function_at functions f.0) file.0; becomes = refl; others = now };
        },
        refl,
      )
      (carries_none old before kept set places old before shows refl refl)
      (file.0, of.0, of.1, ap (notice.Attached f) (length_there of.0 (get set file.0) long of.1.stands (lengths set places shows.knows)))
      (ap file_numbers now ∙ files_with functions f.0 (attached_to (function_at functions f.0) file.0) ∙ ap (λ (files : Attachments). with_numbered files f.0 (Some file)) are.files ∙ sym put)
