-- What commands on functions and their files are answered.
use Rattle.std.proofs.Common.{◌≡◌, ℕ, inl, inr, Bool, true, false, List, [], ◌∷◌, Option, Some, None, refl, sym, ap, ◌∙◌}
use Rattle.std.specs.FinMap.{remove}
use Rattle.file_model.proofs.FileSets.{IsSome-from_Some}
use Rattle.nesc_base.specs.Files.{File, Files, IsFileSet, file_at}
use Rattle.nesc_requests.specs.Script.{with_numbered}
use Rattle.nesc_requests.specs.declared.host.HostAnswer.{HostAnswer}
use Rattle.nesc_requests.specs.declared.host.HostAnswer.TheVariants as said
use Rattle.nesc_requests.specs.declared.request.Miss.{Miss}
use Rattle.file_model.specs.Files.{Change, HasName, delete}
use Rattle.plain_machine.specs.Functions.{Attached, Function, attached_of, function_at, is_empty, is_off, is_taken, pending}
use Rattle.plain_machine.specs.HostCommands.{AttachStep, DeleteStep, DetachStep, RegsStep, attached_to, detached, registers}
use Rattle.machine_laws.proofs.Deciding.{Decided, found, named_file, named_file-None, named_file-Some, named_or_not, unnamed_if}
use Rattle.machine_laws.proofs.FileAnswering.{Answered, refused}
use Rattle.machine_laws.proofs.Leading.{CanLead}

-- Deletes

module _ (files : Files) (old : List Function) (name : List ℕ) where
  -- where the file of this number is taken or not
  abbrev deletion_by : ℕ → Bool → Answered
  deletion_by number true = refused said.Attached
  deletion_by number false = record { answer = said.Ok; changes = delete number ∷ [] }

  abbrev deletion_of : Option (ℕ × File) → Answered
  deletion_of None = refused said.NoFile
  deletion_of (Some stands) = deletion_by stands.0 (is_taken old stands.0)

  abbrev pub deletion : Answered
  deletion = deletion_of (named_file files name)

  deletion_found : (number : ℕ) (file : File) (taken : Bool) → IsFileSet files → HasName files name number file → is_taken old number ≡ taken
      → deletion ≡ deletion_by number taken
  deletion_found number file taken set named is =
      ap deletion_of (named_file-Some files name number file set named) ∙ ap (deletion_by number) is

  -- nothing else is answered
  pub deletion_one : (answer : HostAnswer) (changes : List Change) → IsFileSet files → DeleteStep files old name answer changes
      → record { answer = answer; changes = changes } ≡ deletion
  deletion_one said.NoFile changes set step =
      (λ i. record { answer = said.NoFile; changes = step.1 i }) ∙ sym (ap deletion_of (named_file-None files name step.0))
  deletion_one said.Attached changes set step =
      let taken = step.0 in
      (λ i. record { answer = said.Attached; changes = step.1 i })
      ∙ sym (deletion_found taken.number taken.file true set taken.named taken.taken)
  deletion_one said.Ok changes set step =
      (λ i. record { answer = said.Ok; changes = step.gone i })
      ∙ sym (deletion_found step.number step.file false set step.named step.unused)
  deletion_one answer changes set step = absurd step

  pub record CanDelete (to : Answered) : Type 0 where
    pub steps : DeleteStep files old name to.answer to.changes
    pub leads : CanLead files to.changes

  can_delete_by : (number : ℕ) (file : File) (taken : Bool) → HasName files name number file → is_taken old number ≡ taken
      → CanDelete (deletion_by number taken)
  can_delete_by number file true named taken =
      record { steps = (record { number = number; file = file; named = named; taken = taken }, refl); leads = (files, refl) }
  can_delete_by number file false named unused = record {
    steps = record { number = number; file = file; named = named; unused = unused; gone = refl };
    leads = (remove files number, (remove files number, record { stands = IsSome-from_Some _ file named.stands; result = refl }, refl));
  }

  can_delete_found : (decided : Decided (HasName files name)) → CanDelete (deletion_of (found (HasName files name) decided))
  can_delete_found (inl (number, file, named)) = can_delete_by number file (is_taken old number) named refl
  can_delete_found (inr none) = record { steps = (unnamed_if files name none, refl); leads = (files, refl) }

  -- and this is
  pub can_delete : CanDelete deletion
  can_delete = can_delete_found (named_or_not files name)

-- Attaches and detaches

pub record Attachment : Type 0 where
  pub answer : HostAnswer
  pub functions : List Function

module _ (files : Files) (old : List Function) (f : ℕ) (name : List ℕ) where
  -- where the function is off or not, and the file of this number taken or not
  abbrev attachment_by : ℕ → Bool → Bool → Attachment
  attachment_by number false taken = record { answer = said.FunctionTaken; functions = old }
  attachment_by number true true = record { answer = said.FileTaken; functions = old }
  attachment_by number true false = record { answer = said.Ok; functions = with_numbered old f (attached_to (function_at old f) number) }

  abbrev attachment_of : Option (ℕ × File) → Attachment
  attachment_of None = record { answer = said.NoFile; functions = old }
  attachment_of (Some stands) = attachment_by stands.0 (is_off old f) (is_taken old stands.0)

  abbrev pub attachment : Attachment
  attachment = attachment_of (named_file files name)

  attachment_found : (number : ℕ) (file : File) (off taken : Bool) → IsFileSet files → HasName files name number file
      → is_off old f ≡ off → is_taken old number ≡ taken → attachment ≡ attachment_by number off taken
  attachment_found number file off taken set named is_off is_taken =
      ap attachment_of (named_file-Some files name number file set named) ∙ (λ i. attachment_by number (is_off i) (is_taken i))

  -- nothing else is answered
  pub attachment_one : (answer : HostAnswer) (new : List Function) → IsFileSet files → AttachStep files old f name answer new
      → record { answer = answer; functions = new } ≡ attachment
  attachment_one said.NoFile new set step =
      (λ i. record { answer = said.NoFile; functions = step.1 i }) ∙ sym (ap attachment_of (named_file-None files name step.0))
  attachment_one said.FunctionTaken new set step =
      (λ i. record { answer = said.FunctionTaken; functions = step.2 i })
      ∙ sym (attachment_found step.0.0 step.0.1 false _ set step.0.2 step.1 refl)
  attachment_one said.FileTaken new set step =
      let taken = step.1 in
      (λ i. record { answer = said.FileTaken; functions = step.2 i })
      ∙ sym (attachment_found taken.number taken.file true true set taken.named step.0 taken.taken)
  attachment_one said.Ok new set step =
      let functions = step.given.others ∙ ap (with_numbered old f) step.given.becomes in
      (λ i. record { answer = said.Ok; functions = functions i })
      ∙ sym (attachment_found step.number step.file true false set step.named step.off step.unused)
  attachment_one answer new set step = absurd step

  abbrev Attaches : Attachment → Type 0
  Attaches to = AttachStep files old f name to.answer to.functions

  attaches_by : (number : ℕ) (file : File) (off taken : Bool) → HasName files name number file
      → is_off old f ≡ off → is_taken old number ≡ taken → Attaches (attachment_by number off taken)
  attaches_by number file false taken named on is_taken = ((number, file, named), on, refl)
  attaches_by number file true true named off taken = (off, record { number = number; file = file; named = named; taken = taken }, refl)
  attaches_by number file true false named off unused = record {
    number = number;
    file = file;
    named = named;
    off = off;
    unused = unused;
    given = record { after = _; becomes = refl; others = refl };
  }

  attaches_found : (decided : Decided (HasName files name)) → Attaches (attachment_of (found (HasName files name) decided))
  attaches_found (inl (number, file, named)) = attaches_by number file (is_off old f) (is_taken old number) named refl refl
  attaches_found (inr none) = (unnamed_if files name none, refl)

  -- and this is
  pub attachment_steps : Attaches attachment
  attachment_steps = attaches_found (named_or_not files name)

module _ (old : List Function) (f : ℕ) where
  -- where no request waits, or one does
  abbrev detachment_by : Bool → Attachment
  detachment_by true = record { answer = said.Ok; functions = with_numbered old f (detached (function_at old f)) }
  detachment_by false = record { answer = said.Queued; functions = old }

  abbrev detachment_of : Option Attached → Attachment
  detachment_of None = record { answer = said.NotAttached; functions = old }
  detachment_of (Some attached) = detachment_by (is_empty attached.queue)

  abbrev pub detachment : Attachment
  detachment = detachment_of (attached_of old f)

  -- nothing else is answered
  pub detachment_one : (answer : HostAnswer) (new : List Function) → DetachStep old f answer new
      → record { answer = answer; functions = new } ≡ detachment
  detachment_one said.NotAttached new step =
      (λ i. record { answer = said.NotAttached; functions = step.1 i }) ∙ sym (ap detachment_of step.0)
  detachment_one said.Queued new step =
      (λ i. record { answer = said.Queued; functions = step.1 i }) ∙ sym (ap detachment_of step.0.on ∙ ap detachment_by step.0.queue)
  detachment_one said.Ok new step =
      let functions = step.1.others ∙ ap (with_numbered old f) step.1.becomes in
      (λ i. record { answer = said.Ok; functions = functions i }) ∙ sym (ap detachment_of step.0.on ∙ ap detachment_by step.0.queue)
  detachment_one answer new step = absurd step

  abbrev Detaches : Attachment → Type 0
  Detaches to = DetachStep old f to.answer to.functions

  detaches_by : (attached : Attached) → attached_of old f ≡ Some attached → (empty : Bool) → is_empty attached.queue ≡ empty → Detaches (detachment_by empty)
  detaches_by attached on true none =
      (record { attached = attached; on = on; queue = none }, record { after = _; becomes = refl; others = refl })
  detaches_by attached on false some = (record { attached = attached; on = on; queue = some }, refl)

  detaches_of : (has : Option Attached) → attached_of old f ≡ has → Detaches (detachment_of has)
  detaches_of None off = (off, refl)
  detaches_of (Some attached) on = detaches_by attached on (is_empty attached.queue) refl

  -- and this is
  pub detachment_steps : Detaches detachment
  detachment_steps = detaches_of (attached_of old f) refl

-- Registers

module _ (files : Files) (functions : List Function) (f : ℕ) where
  abbrev shown_of : Option Attached → HostAnswer
  shown_of None = said.NotAttached
  shown_of (Some attached) = registers (file_at files attached.file).length attached.waiting (pending functions)

  abbrev pub shown : HostAnswer
  shown = shown_of (attached_of functions f)

  -- nothing else is answered
  pub shown_one : (answer : HostAnswer) → RegsStep files functions f answer → answer ≡ shown
  shown_one said.NotAttached off = sym (ap shown_of off)
  shown_one answer shows = shows.shown ∙ sym (ap shown_of shows.on)

  -- where the function waits for this, if it waits
  shows_waiting : (attached : Attached) → attached_of functions f ≡ Some attached → (waiting : Option Miss) → attached.waiting ≡ waiting
      → RegsStep files functions f (registers (file_at files attached.file).length waiting (pending functions))
  shows_waiting attached on None none =
      record { attached = attached; on = on; shown = sym (ap (λ waiting. registers (file_at files attached.file).length waiting (pending functions)) none) }
  shows_waiting attached on (Some miss) waits =
      record { attached = attached; on = on; shown = sym (ap (λ waiting. registers (file_at files attached.file).length waiting (pending functions)) waits) }

  shows_of : (has : Option Attached) → attached_of functions f ≡ has → RegsStep files functions f (shown_of has)
  shows_of None off = off
  shows_of (Some attached) on = shows_waiting attached on attached.waiting refl

  -- and this is
  pub shown_steps : RegsStep files functions f shown
  shown_steps = shows_of (attached_of functions f) refl
