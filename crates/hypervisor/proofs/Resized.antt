-- How a file gets another length.
use Rattle.std.proofs.Common.{◌≡◌, ℕ, ◌+◌, List, ◌∷◌, [], Option, Ok, option_map, refl, sym, ap, ◌∙◌, subst}
use Rattle.std.specs.FinMap.{len}
use Rattle.std.specs.Prelude.{nat_lt}
use Rattle.std.proofs.lemmas.Option.{same_Some}
use Rattle.nesc_base.specs.declared.block.Block.{Block}
use Rattle.nesc_base.specs.declared.numbers.FileNo.{FileNo}
use Rattle.nesc_base.specs.declared.numbers.FnNo.{FnNo}
use Rattle.nesc_base.specs.Files.{File}
use Rattle.nesc_requests.specs.declared.host.HostAnswer.TheVariants as said
use Rattle.nesc_requests.specs.declared.host.HostCommand.TheVariants.{Resize}
use Rattle.file_layer.specs.Answers.{FileAnswers}
use Rattle.file_layer.specs.Changing.{IsResized, Leads, Stages}
use Rattle.file_layer.specs.Knowing.{OfFiles}
use Rattle.file_layer.specs.Layer.{Layer}
use Rattle.file_model.specs.Files.{HasName, below, resize}
use Rattle.host_journal.specs.Journal.{Journal}
use Rattle.hypervisor.specs.Attachments.{AreAttachments, Attachments, file_numbers}
use Rattle.hypervisor.specs.Carrying.{DoesOver}
use Rattle.hypervisor.specs.Telling.{TellsLength, told}
use Rattle.hypervisor.specs.declared.change.Change.{Change}
use Rattle.hypervisor.specs.declared.change.HostDone.{HostDone}
use Rattle.hypervisor.proofs.Carried.{carries_resize}
use Rattle.hypervisor.proofs.Done.{does}
use Rattle.hypervisor.proofs.FunctionFiles.{HasIt, NoneHasIt, function_alike}
use Rattle.hypervisor.proofs.Telling.{given_some, told_length}

-- a file gave back so many blocks
abbrev pub GaveBack : ℕ → File → ℕ → Type 0
GaveBack length held given = given + len (below length held.body) ≡ len held.body

pub resize_done : (attachments : Attachments) (queued : ℕ) (file : FileNo) (found : Option FnNo) (old : Layer) (before : Journal) (name : List ℕ) (length given : ℕ) (done : HostDone) (change : Change) (new : Layer) (after : Journal)
    (places_named : ℕ → Type 0) → OfFiles old (λ set _. (of : File) × HasName set name file.0 of) → AreAttachments attachments → HasIt attachments file found → NoneHasIt attachments file found
    → OfFiles old (λ set _. FileAnswers set file.0 (GaveBack length) (Ok given)) → done.answer ≡ said.Ok → done.change ≡ change → TellsLength (option_map (λ f. f.0) found) length (nat_lt 0 given) change
    → Leads (IsResized file.0 length) old before new after → Stages places_named 0 before after
    → (kept : List Block) → DoesOver kept attachments queued old before (Resize name length) done attachments new after
resize_done attachments queued file found old before name length given done change new after places_named named sound some none gave answered noted tells leads stages kept set places functions shows are =
    let of = named set places shows.knows in
    let back = gave set places shows.knows in
    let same : back.0 ≡ of.0 = same_Some back.0 of.0 (sym back.1 ∙ of.1.stands) in
    let sum : GaveBack length of.0 given = subst (λ (held : File). GaveBack length held given) same back.2 in
    let still : told change attachments functions ≡ functions = told_length attachments functions (option_map (λ f. f.0) found) length (nat_lt 0 given) change tells in
    let told_so : TellsLength (option_map (λ f. f.0) found) length (nat_lt (len (below length of.0.body)) (len of.0.body)) change =
    subst (λ more. TellsLength (option_map (λ f. f.0) found) length more change) (given_some given (len (below length of.0.body)) (len of.0.body) sum) tells in
    does attachments old before kept set places functions (Resize name length) done attachments new after said.Ok change (resize file.0 length ∷ []) answered noted
    (record { number = file.0; file = of.0; named = of.1; sized = refl }, still)
    (carries_resize old before kept set places new after shows file.0 length places_named leads stages)
    (file.0, of.0, of.1, subst (λ f. TellsLength f length (nat_lt (len (below length of.0.body)) (len of.0.body)) change) (sym (function_alike attachments functions are.files sound file found some none)) told_so)
    (ap file_numbers still ∙ are.files)
