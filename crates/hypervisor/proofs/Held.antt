-- How blocks of a file come to be held, and are put.
use Rattle.std.proofs.Common.{◌≡◌, ℕ, ◌+◌, ◌≤◌, List, ◌++◌, length, Option, Some, Ok, Err, option_map, refl, sym, ap, ◌∙◌, subst, arith}
use Rattle.std.specs.FinMap.{get}
use Rattle.std.proofs.lemmas.Option.{none-some, same_Some}
use Rattle.nesc_base.specs.declared.block.Block.{Block}
use Rattle.nesc_base.specs.declared.numbers.FileNo.{FileNo}
use Rattle.nesc_base.specs.declared.numbers.FnNo.{FnNo}
use Rattle.nesc_base.specs.Files.{File}
use Rattle.nesc_requests.specs.declared.host.HostAnswer.TheVariants as said
use Rattle.nesc_requests.specs.declared.host.HostCommand.TheVariants.{Map, Put}
use Rattle.file_layer.specs.declared.files.FileFault.{FileFault}
use Rattle.file_layer.specs.declared.files.FileFault.TheVariants as fault
use Rattle.file_layer.specs.Answers as number
use Rattle.file_layer.specs.Answers.{HoldAnswers, IsPast, IsWithin}
use Rattle.file_layer.specs.Changing.{AreMapped, ArePut, Leads, Stages}
use Rattle.file_layer.specs.Knowing.{FileSet, OfFiles}
use Rattle.file_layer.specs.Layer.{IsLayer, Layer, area_of}
use Rattle.file_model.specs.Files.{HasName, holding, puts_from, unheld}
use Rattle.host_journal.specs.Journal.{Journal}
use Rattle.plain_machine.specs.Functions.{Function}
use Rattle.plain_machine.specs.HostCommands.{HasSpace, IsInside, IsOutside, LacksSpace}
use Rattle.hypervisor.specs.Attachments.{AreAttachments, Attachments, file_numbers}
use Rattle.hypervisor.specs.Carrying.{DoesOver, refusal_of}
use Rattle.hypervisor.specs.Telling.{TellsBlocks, function_with, told}
use Rattle.hypervisor.specs.declared.change.Change.{Change}
use Rattle.hypervisor.specs.declared.change.HostDone.{HostDone}
use Rattle.hypervisor.proofs.Carried.{carries_map, carries_put}
use Rattle.hypervisor.proofs.Done.{IsRefused, does}
use Rattle.hypervisor.proofs.FunctionFiles.{HasIt, NoneHasIt, function_alike}
use Rattle.hypervisor.proofs.Naming.{one_named}
use Rattle.hypervisor.proofs.Telling.{told_blocks}

-- Refusals

-- what is said of a number is said of its name
module _ (set : FileSet) (name : List ℕ) (k : ℕ) (file : File) (has : HasName set name k file) where
  pub named_so : (other : File) → get set k ≡ Some other → HasName set name k other
  named_so other stands = record { stands = stands; named = ap (λ (f : File). f.name) (same_Some other file (sym stands ∙ has.stands)) ∙ has.named }

  pub outside : (v n : ℕ) → IsPast set k v n → IsOutside set name v n
  outside v n out = record { number = k; file = out.file; named = named_so out.file out.stands; past = out.past }

  pub inside : (v n : ℕ) → IsWithin set k v n → IsInside set name v n
  inside v n is = record { number = k; file = is.file; named = named_so is.file is.stands; within = is.within }

  pub lacking_space : (v n blocks are_free needed : ℕ) → number.LacksSpace blocks set k v n are_free needed → LacksSpace blocks set name v n are_free needed
  lacking_space v n blocks are_free needed lack = record {
    number = k;
    file = lack.file;
    named = named_so lack.file lack.stands;
    within = lack.within;
    frees = lack.free;
    lacks = lack.lacked;
    few = lack.few;
  }

module _ (blocks : ℕ) (set : FileSet) (functions : List Function) (name : List ℕ) (k v : ℕ) (file : File) (has : HasName set name k file) where
  pub map_refused : (n : ℕ) (cause : FileFault) → HoldAnswers blocks set k v n (Err cause) → IsRefused blocks set functions (Map name v n) (refusal_of cause)
  map_refused n fault.NoFile answers = absurd (none-some file (sym answers ∙ has.stands))
  map_refused n fault.Range answers = record { step = ((outside set name k file has v n answers, refl), refl); tells = refl }
  map_refused n (fault.NoSpace are_free needed) answers = record { step = ((lacking_space set name k file has v n blocks are_free needed answers, refl), refl); tells = refl }
  map_refused n fault.Exists answers = absurd answers
  map_refused n fault.NoSlot answers = absurd answers
  map_refused n fault.Media answers = absurd answers

  pub put_refused : (from : List Block) (cause : FileFault) → HoldAnswers blocks set k v (length from) (Err cause) → IsRefused blocks set functions (Put name v from) (refusal_of cause)
  put_refused from fault.NoFile answers = absurd (none-some file (sym answers ∙ has.stands))
  put_refused from fault.Range answers = record { step = ((outside set name k file has v (length from) answers, refl), refl); tells = refl }
  put_refused from (fault.NoSpace are_free needed) answers = record { step = ((lacking_space set name k file has v (length from) blocks are_free needed answers, refl), refl); tells = refl }
  put_refused from fault.Exists answers = absurd answers
  put_refused from fault.NoSlot answers = absurd answers
  put_refused from fault.Media answers = absurd answers

-- What is done

-- the file of the name has space, and so many of its blocks come to be held
record HasSpaceNow (blocks : ℕ) (set : FileSet) (name : List ℕ) (k v n newly : ℕ) : Type 0 where
  pub file : File
  pub named : HasName set name k file
  pub within : v + n ≤ file.length
  pub counted : newly ≡ length (unheld file v n)
  pub space : HasSpace blocks set name v n

module _ (attachments : Attachments) (queued : ℕ) (file : FileNo) (found : Option FnNo) (old : Layer) (before : Journal) (name : List ℕ) (v newly : ℕ) (done : HostDone) (change : Change) (new : Layer) (after : Journal)
    (places_named : ℕ → Type 0) (layer : IsLayer old) (named : OfFiles old (λ set _. (of : File) × HasName set name file.0 of)) (sound : AreAttachments attachments) (some : HasIt attachments file found) (none : NoneHasIt attachments file found)
    (answered : done.answer ≡ said.Ok) (noted : done.change ≡ change) (tells : TellsBlocks (option_map (λ f. f.0) found) newly change) where
  space_now : (n : ℕ) → OfFiles old (λ set _. HoldAnswers old.geometry.blocks set file.0 v n (Ok newly)) → OfFiles old (λ set _. HasSpaceNow old.geometry.blocks set name file.0 v n newly)
  space_now n answers set places knows =
      let of = named set places knows in
      let has = answers set places knows in
      let here : has.file ≡ of.0 = same_Some has.file of.0 (sym has.stands ∙ of.1.stands) in
      record {
        file = of.0;
        named = of.1;
        within = subst (λ (f : File). v + n ≤ f.length) here has.within;
        counted = subst (λ (f : File). newly ≡ length (unheld f v n)) here has.counted;
        space = λ m other other_named.
            let same : other ≡ has.file = one_named old set places knows name m file.0 other of.0 layer other_named of.1 ∙ sym here in
            let one : length (unheld other v n) ≡ length (unheld has.file v n) = ap (λ (f : File). length (unheld f v n)) same in
            omega (arith, one, has.counted, has.enough);
      }

  still : (functions : List Function) → told change attachments functions ≡ functions
  still functions = told_blocks attachments functions (option_map (λ f. f.0) found) newly change tells

  tells_of : (functions : List Function) → file_numbers functions ≡ attachments → (count : ℕ) → newly ≡ count → TellsBlocks (function_with functions file.0) count change
  tells_of functions files count counted =
      subst (λ f. TellsBlocks f count change) (sym (function_alike attachments functions files sound file found some none))
      (subst (λ n. TellsBlocks (option_map (λ f. f.0) found) n change) counted tells)

  pub map_done : (n : ℕ) → OfFiles old (λ set _. HoldAnswers old.geometry.blocks set file.0 v n (Ok newly)) → Leads (AreMapped (area_of old.geometry) file.0 v n) old before new after → Stages places_named newly before after
      → (kept : List Block) → DoesOver kept attachments queued old before (Map name v n) done attachments new after
  map_done n answers leads stages kept set places functions shows are =
      let now = space_now n answers set places shows.knows in
      does attachments old before kept set places functions (Map name v n) done attachments new after said.Ok change (holding file.0 (unheld now.file v n)) answered noted
      ((now.space, record { number = file.0; file = now.file; named = now.named; within = now.within; holds = refl }), still functions)
      (carries_map old before kept set places new after shows file.0 now.file now.named.stands v n newly places_named now.counted leads stages)
      (file.0, now.file, now.named, tells_of functions are.files (length (unheld now.file v n)) now.counted) (ap file_numbers (still functions) ∙ are.files)

  pub put_done : (from : List Block) → OfFiles old (λ set _. HoldAnswers old.geometry.blocks set file.0 v (length from) (Ok newly)) → Leads (ArePut (area_of old.geometry) file.0 v from) old before new after
      → Stages places_named (length from) before after → (kept : List Block) → DoesOver kept attachments queued old before (Put name v from) done attachments new after
  put_done from answers leads stages kept set places functions shows are =
      let now = space_now (length from) answers set places shows.knows in
      does attachments old before kept set places functions (Put name v from) done attachments new after said.Ok change (holding file.0 (unheld now.file v (length from)) ++ puts_from file.0 v from) answered noted
      ((now.space, record { number = file.0; file = now.file; named = now.named; within = now.within; puts = refl }), still functions)
      (carries_put old before kept set places new after shows file.0 now.file now.named.stands v from places_named leads stages)
      (file.0, now.file, now.named, tells_of functions are.files (length (unheld now.file v (length from))) now.counted) (ap file_numbers (still functions) ∙ are.files)
