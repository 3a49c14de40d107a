-- What the host is answered.
use Rattle.std.proofs.Common.{◌≡◌, ℕ, Bool, true, false, List, [], Option, Some, None, refl}
use Rattle.std.specs.Option.{is_some}
use Rattle.std.proofs.lemmas.Bool.{false≢true}
use Rattle.nesc_base.specs.Files.{Files, IsFileSet}
use Rattle.nesc_requests.specs.declared.event.Event.TheVariants.{Host}
use Rattle.nesc_requests.specs.declared.host.HostAnswer.{HostAnswer}
use Rattle.nesc_requests.specs.declared.host.HostAnswer.TheVariants as said
use Rattle.nesc_requests.specs.declared.host.HostCommand.{HostCommand}
use Rattle.nesc_requests.specs.declared.host.HostCommand.TheVariants.{Attach, Create, Delete, Detach, Get, Map, Put, Regs, Resize, Sync}
use Rattle.file_model.specs.Files.{Change, LeadsTo}
use Rattle.plain_machine.specs.Functions.{Function}
use Rattle.plain_machine.specs.Given.{clock_of, is_failed_get}
use Rattle.plain_machine.specs.HostCommands.{HostStep}
use Rattle.plain_machine.specs.Machine.{is_sync}
use Rattle.plain_machine.specs.State.{State}
use Rattle.plain_machine.specs.declared.outcome.Answer.TheVariants as happened
use Rattle.plain_machine.specs.declared.setting.Setting.{Setting}
use Rattle.machine_laws.proofs.Attaching.{attachment, attachment_one, attachment_steps, can_delete, deletion, deletion_one, detachment, detachment_one, detachment_steps, shown, shown_one, shown_steps}
use Rattle.machine_laws.proofs.FileAnswering.{answered, answered_one, create_answers, get_answers, map_answers, put_answers, resize_answers}
use Rattle.machine_laws.proofs.Leading.{CanLead}
use Rattle.machine_laws.proofs.Outcomes.{CanCome, Coming, Given, nothing_given}

-- the clock of a commit, if there is one
abbrev pub clock_if : Bool → ℕ → Option ℕ
clock_if true clock = Some clock
clock_if false clock = None

pub clock_one : (after : Option ℕ) (commits : Bool) → is_some after ≡ commits → after ≡ clock_if commits (clock_of after)
clock_one None true is = absurd (false≢true is)
clock_one None false is = refl
clock_one (Some clock) true is = refl
clock_one (Some clock) false is = cc

-- the host is answered so
abbrev pub hosting : State → Option ℕ → HostAnswer → List Change → List Function → Coming
hosting old after said changes functions = record {
  answer = happened.Host said;
  after = after;
  reply = None;
  changes = changes;
  functions = functions;
  last = old.last;
}

module _ (blocks : ℕ) (old : State) where
  abbrev hosted_at : Bool → Option ℕ → HostCommand → Coming
  hosted_at fails after (Delete name) = let to = deletion old.now old.functions name in hosting old after to.answer to.changes old.functions
  hosted_at fails after (Attach f name) = let to = attachment old.now old.functions f.0 name in hosting old after to.answer [] to.functions
  hosted_at fails after (Detach f) = let to = detachment old.functions f.0 in hosting old after to.answer [] to.functions
  hosted_at fails after Sync = hosting old after said.Ok [] old.functions
  hosted_at fails after (Regs f) = hosting old after (shown old.now old.functions f.0) [] old.functions
  hosted_at fails after command = let to = answered blocks old.now fails command in hosting old after to.answer to.changes old.functions

  -- with what is given
  abbrev pub hosted : Given → HostCommand → Coming
  hosted given command = hosted_at given.failed_get (clock_if (is_sync command) given.clock) command

  -- It is answered nothing else

  pub hosted_at_one : (command : HostCommand) (fails : Bool) (after : Option ℕ) (said : HostAnswer) (changes : List Change) (functions : List Function)
      (new : Files) → IsFileSet old.now → fails ≡ is_failed_get (happened.Host said)
      → HostStep blocks old.now old.functions command said changes functions → LeadsTo old.now changes new
      → hosting old after said changes functions ≡ hosted_at fails after command
  hosted_at_one (Delete name) fails after said changes functions new set failing step leads =
      let same = deletion_one old.now old.functions name said changes set step.0 in
      λ i. hosting old after (same i).answer (same i).changes (step.1 i)
  hosted_at_one (Attach f name) fails after said changes functions new set failing step leads =
      let same = attachment_one old.now old.functions f.0 name said functions set step.0 in
      λ i. hosting old after (same i).answer (step.1 i) (same i).functions
  hosted_at_one (Detach f) fails after said changes functions new set failing step leads =
      let same = detachment_one old.functions f.0 said functions step.0 in
      λ i. hosting old after (same i).answer (step.1 i) (same i).functions
  hosted_at_one Sync fails after said changes functions new set failing step leads =
      λ i. hosting old after (step.0 i) (step.1 i) (step.2 i)
  hosted_at_one (Regs f) fails after said changes functions new set failing step leads =
      let same = shown_one old.now old.functions f.0 said step.0 in
      λ i. hosting old after (same i) (step.1 i) (step.2 i)
  hosted_at_one command fails after said changes functions new set failing step leads =
      let same = answered_one blocks old.now fails command said changes new set failing step.0 leads in
      λ i. hosting old after (same i).answer (same i).changes (step.1 i)

-- And it is answered that

module _ (setting : Setting) (old : State) (before : Option ℕ) where
  abbrev data_blocks : ℕ
  data_blocks = setting.geometry.blocks

  answers_host : (command : HostCommand) (after : Option ℕ) (said : HostAnswer) (changes : List Change) (functions : List Function)
      → HostStep data_blocks old.now old.functions command said changes functions → is_some after ≡ is_sync command → CanLead old.now changes
      → CanCome setting old (Host command) before (hosting old after said changes functions)
  answers_host command after said changes functions step commits leads = record {
    comes = record { said = said; answers = step; told = refl; commits = commits; silent = refl; same_last = refl };
    walks = refl;
    no_leaf = refl;
    leads = leads;
  }

  pub hosted_comes : (command : HostCommand) → CanCome setting old (Host command) before (hosted data_blocks old nothing_given command)
  hosted_comes (Create name len) =
      let can = create_answers data_blocks old.now name len in answers_host (Create name len) _ _ _ _ (can.answers, refl) refl can.leads
  hosted_comes (Delete name) =
      let can = can_delete old.now old.functions name in answers_host (Delete name) _ _ _ _ (can.steps, refl) refl can.leads
  hosted_comes (Resize name len) =
      let can = resize_answers data_blocks old.now name len in answers_host (Resize name len) _ _ _ _ (can.answers, refl) refl can.leads
  hosted_comes (Put name v from) =
      let can = put_answers data_blocks old.now name v from in answers_host (Put name v from) _ _ _ _ (can.answers, refl) refl can.leads
  hosted_comes (Map name v n) =
      let can = map_answers data_blocks old.now name v n in answers_host (Map name v n) _ _ _ _ (can.answers, refl) refl can.leads
  hosted_comes (Get name v into) =
      let can = get_answers data_blocks old.now name v into in answers_host (Get name v into) _ _ _ _ (can.answers, refl) refl can.leads
  hosted_comes (Attach f name) =
      answers_host (Attach f name) _ _ _ _ (attachment_steps old.now old.functions f.0 name, refl) refl (old.now, refl)
  hosted_comes (Detach f) = answers_host (Detach f) _ _ _ _ (detachment_steps old.functions f.0, refl) refl (old.now, refl)
  hosted_comes Sync = answers_host Sync _ _ _ _ (refl, refl, refl) refl (old.now, refl)
  hosted_comes (Regs f) = answers_host (Regs f) _ _ _ _ (shown_steps old.now old.functions f.0, refl, refl) refl (old.now, refl)
