-- How a file is made.
use Rattle.std.proofs.Common.{◌≡◌, ℕ, List, [], ◌∷◌, Err, refl}
use Rattle.nesc_base.specs.declared.block.Block.{Block}
use Rattle.nesc_requests.specs.declared.host.HostAnswer.TheVariants as said
use Rattle.nesc_requests.specs.declared.host.HostCommand.TheVariants.{Create}
use Rattle.file_layer.specs.declared.files.FileFault.{FileFault}
use Rattle.file_layer.specs.declared.files.FileFault.TheVariants as fault
use Rattle.file_layer.specs.Answers.{CreateAnswers}
use Rattle.file_layer.specs.Changing.{IsCreated, Leads, Stages}
use Rattle.file_layer.specs.Knowing.{FileSet}
use Rattle.file_layer.specs.Layer.{Layer}
use Rattle.file_model.specs.Files.{create}
use Rattle.host_journal.specs.Journal.{Journal}
use Rattle.plain_machine.specs.Functions.{Function}
use Rattle.hypervisor.specs.Attachments.{Attachments}
use Rattle.hypervisor.specs.Carrying.{DoesOver, refusal_of}
use Rattle.hypervisor.specs.declared.change.Change.TheVariants.{Nothing}
use Rattle.hypervisor.specs.declared.change.HostDone.{HostDone}
use Rattle.hypervisor.proofs.Carried.{carries_create}
use Rattle.hypervisor.proofs.Done.{IsRefused, does}

pub create_refused : (blocks : ℕ) (set : FileSet) (functions : List Function) (name : List ℕ) (length : ℕ) (cause : FileFault) → CreateAnswers set name (Err cause)
    → IsRefused blocks set functions (Create name length) (refusal_of cause)
create_refused blocks set functions name length fault.Exists answers = record { step = ((answers, refl), refl); tells = refl }
create_refused blocks set functions name length fault.NoSlot answers = record { step = ((answers.0, answers.1, refl), refl); tells = refl }
create_refused blocks set functions name length fault.NoFile answers = absurd answers
create_refused blocks set functions name length fault.Range answers = absurd answers
create_refused blocks set functions name length (fault.NoSpace are_free needed) answers = absurd answers
create_refused blocks set functions name length fault.Media answers = absurd answers

pub create_done : (attachments : Attachments) (queued : ℕ) (old : Layer) (before : Journal) (name : List ℕ) (length : ℕ) (done : HostDone) (new : Layer) (after : Journal) (n : ℕ) (named : ℕ → Type 0)
    → done.answer ≡ said.Ok → done.change ≡ Nothing → Leads (IsCreated n name length) old before new after → Stages named 0 before after
    → (kept : List Block) → DoesOver kept attachments queued old before (Create name length) done attachments new after
create_done attachments queued old before name length done new after n named answered noted leads stages kept set places functions shows are =
    does attachments old before kept set places functions (Create name length) done attachments new after said.Ok Nothing (create n name length ∷ []) answered noted ((n, refl), refl)
    (carries_create old before kept set places new after shows n name length named leads stages) refl are.files
