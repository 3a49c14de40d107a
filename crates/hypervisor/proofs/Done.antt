-- That a command is done, or refused, as the machine does it.
use Rattle.std.proofs.Common.{◌≡◌, ◌≢◌, ℕ, List, [], refl, sym, ◌∙◌, subst}
use Rattle.nesc_base.specs.declared.block.Block.{Block}
use Rattle.nesc_base.specs.Files.{Files}
use Rattle.nesc_base.specs.Places.{Places}
use Rattle.nesc_requests.specs.declared.host.HostAnswer.{HostAnswer}
use Rattle.nesc_requests.specs.declared.host.HostAnswer.TheVariants as said
use Rattle.nesc_requests.specs.declared.host.HostCommand.{HostCommand}
use Rattle.file_layer.specs.declared.files.FileFault.{FileFault}
use Rattle.file_layer.specs.declared.files.FileFault.TheVariants as fault
use Rattle.file_layer.specs.Changing.{Leads}
use Rattle.file_layer.specs.Knowing.{FileSet, OfFiles}
use Rattle.file_layer.specs.Layer.{IsLayer, Layer}
use Rattle.file_layer.specs.Showing.{Shows, StayShown}
use Rattle.file_layer.proofs.SomeFiles.{some_known}
use Rattle.file_model.specs.Files as model
use Rattle.host_journal.specs.Journal.{Journal}
use Rattle.plain_machine.specs.Functions.{Function}
use Rattle.plain_machine.specs.HostCommands.{HostStep}
use Rattle.hypervisor.specs.Attachments.{AreFunctions, Attachments, file_numbers}
use Rattle.hypervisor.specs.Carrying.{Carries, DoesCommand, DoesOver, refusal_of}
use Rattle.hypervisor.specs.Telling.{TellsDevice, told}
use Rattle.hypervisor.specs.declared.change.Change.{Change}
use Rattle.hypervisor.specs.declared.change.Change.TheVariants.{Nothing}
use Rattle.hypervisor.specs.declared.change.HostDone.{HostDone}
use Rattle.hypervisor.proofs.Carried.{carries_none}

-- a command is answered so, and something is told of it
pub does : (attachments : Attachments) (old : Layer) (before : Journal) (kept : List Block) (set : Files) (places : Places) (functions : List Function) (command : HostCommand) (done : HostDone)
    (attached : Attachments) (new : Layer) (after : Journal) (answer : HostAnswer) (change : Change) (changes : List model.Change)
    → done.answer ≡ answer → done.change ≡ change → HostStep old.geometry.blocks set functions command answer changes (told change attached functions) → Carries old before kept set places changes new after
    → TellsDevice set functions command answer change → file_numbers (told change attached functions) ≡ attached → DoesCommand attachments old before kept set places functions command done attached new after
does attachments old before kept set places functions command done attached new after answer change changes answered noted step carries tells files = record {
  changes = changes;
  step = subst (λ (a : HostAnswer). HostStep old.geometry.blocks set functions command a changes (told done.change attached functions)) (sym answered)
      (subst (λ (c : Change). HostStep old.geometry.blocks set functions command answer changes (told c attached functions)) (sym noted) step);
  carries = carries;
  tells = subst (λ (a : HostAnswer). TellsDevice set functions command a done.change) (sym answered) (subst (λ (c : Change). TellsDevice set functions command answer c) (sym noted) tells);
  files = subst (λ (c : Change). file_numbers (told c attached functions) ≡ attached) (sym noted) files;
}

-- a command is answered so over these files and functions, changes nothing, and nothing is told of it
pub record IsRefused (blocks : ℕ) (set : Files) (functions : List Function) (command : HostCommand) (answer : HostAnswer) : Type 0 where
  pub step : HostStep blocks set functions command answer [] functions
  pub tells : TellsDevice set functions command answer Nothing

module _ (attachments : Attachments) (queued : ℕ) (old : Layer) (before : Journal) (command : HostCommand) (done : HostDone) (new : Layer) (after : Journal) (answer : HostAnswer) where
  pub unchanged : done.answer ≡ answer → done.change ≡ Nothing → new ≡ old → after ≡ before
      → (kept : List Block) (set : Files) (places : Places) (functions : List Function) → Shows old before.staged kept set places → AreFunctions attachments queued functions
      → IsRefused old.geometry.blocks set functions command answer → DoesCommand attachments old before kept set places functions command done attachments new after
  unchanged answered noted same_files same_journal kept set places functions shows are is =
      does attachments old before kept set places functions command done attachments new after answer Nothing [] answered noted is.step
      (carries_none old before kept set places new after shows same_files same_journal) is.tells are.files

  -- so it is whatever files they are
  pub refused : done.answer ≡ answer → done.change ≡ Nothing → new ≡ old → after ≡ before
      → OfFiles old (λ set _. (functions : List Function) → AreFunctions attachments queued functions → IsRefused old.geometry.blocks set functions command answer)
      → (kept : List Block) → DoesOver kept attachments queued old before command done attachments new after
  refused answered noted same_files same_journal refuses kept set places functions shows are =
      unchanged answered noted same_files same_journal kept set places functions shows are (refuses set places shows.knows functions are)

-- what is read is not at fault where the cause is another
media_alone : (cause : FileFault) → refusal_of cause ≡ said.Media → cause ≡ fault.Media
media_alone fault.Media is = refl
media_alone fault.Exists is = absurd cc
media_alone fault.NoSlot is = absurd cc
media_alone fault.NoFile is = absurd cc
media_alone fault.Range is = absurd cc
media_alone (fault.NoSpace are_free needed) is = absurd cc

pub not_media : (files : Layer) (P : FileSet → FileFault → Type 0) (cause : FileFault) (answer : HostAnswer) → IsLayer files → OfFiles files (λ set _. P set cause) → ((set : FileSet) → ¬ P set fault.Media)
    → answer ≡ refusal_of cause → answer ≢ said.Media
not_media files P cause answer layer here none answered is =
    let known = some_known files layer in
    none known.0 (subst (P known.0) (media_alone cause (sym answered ∙ is)) (here known.0 known.1 known.2))

-- Files that stay shown

pub stay_still : (old : Layer) (before : Journal) (new : Layer) (after : Journal) → new ≡ old → after ≡ before → StayShown old before new after
stay_still old before new after same_files same_journal kept set places shows = (
  set,
  places,
  subst (λ (files : Layer). Shows files after.staged kept set places) (sym same_files) (subst (λ (journal : Journal). Shows old journal.staged kept set places) (sym same_journal) shows),
)

pub stay_led : (change : Files → Places → Files → Places → Type 0) (old : Layer) (before : Journal) (new : Layer) (after : Journal) → Leads change old before new after → StayShown old before new after
stay_led change old before new after leads kept set places shows = let led = leads kept set places shows in (led.0, led.1, led.3)
