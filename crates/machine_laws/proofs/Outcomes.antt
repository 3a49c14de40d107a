-- What an event comes to, and what is given to the machine with it, each as one value.
use Rattle.std.proofs.Common.{◌≡◌, ℕ, Bool, false, List, Option, None}
use Rattle.nesc_requests.specs.declared.event.Event.{Event}
use Rattle.nesc_requests.specs.declared.request.Reply.{Reply}
use Rattle.file_model.specs.Files.{Change}
use Rattle.plain_machine.specs.Functions.{Function}
use Rattle.plain_machine.specs.Given.{Way, clock_of, is_failed_get, is_failed_read, leaf_of, walked, way_of}
use Rattle.plain_machine.specs.Machine.{ComesTo}
use Rattle.plain_machine.specs.State.{State}
use Rattle.plain_machine.specs.declared.outcome.Answer.{Answer}
use Rattle.plain_machine.specs.declared.outcome.Outcome.{Outcome}
use Rattle.plain_machine.specs.declared.setting.Setting.{Setting}
use Rattle.machine_laws.proofs.Leading.{CanLead}

-- what is given with an event: how a block is looked for, the leaf that is given up, whether the disk could not be read for
-- the host or for a guest, and the clock of the commit that the event makes
pub record Given : Type 0 where
  pub way : Way
  pub leaf : Option (ℕ × ℕ)
  pub failed_get : Bool
  pub failed_read : Bool
  pub clock : ℕ

-- so it is with an outcome
abbrev pub given_with : Answer → Option Reply → Option ℕ → Given
given_with answer reply after = record {
  way = way_of answer;
  leaf = leaf_of answer;
  failed_get = is_failed_get answer;
  failed_read = is_failed_read reply;
  clock = clock_of after;
}

-- there are no trees, the disk can be read, and its clock stands at 0
abbrev pub nothing_given : Given
nothing_given = record { way = walked 0; leaf = None; failed_get = false; failed_read = false; clock = 0 }

-- what it comes to: what is said, the clock of its commit, what a guest is answered, the changes of the files, the functions
-- that it leaves, and which was taken last
pub record Coming : Type 0 where
  pub answer : Answer
  pub after : Option ℕ
  pub reply : Option Reply
  pub changes : List Change
  pub functions : List Function
  pub last : ℕ

abbrev pub given_in : Coming → Given
given_in coming = given_with coming.answer coming.reply coming.after

-- the outcome of what an event comes to, with this before it, and with no trees
abbrev pub outcome_of : Option ℕ → Coming → Outcome
outcome_of before coming = record { before = before; answer = coming.answer; drops = 0; built = None; after = coming.after; reply = coming.reply }

-- what an outcome says, with the changes and the functions that it left, and the one that was taken last
abbrev pub coming_of : Outcome → List Change → List Function → ℕ → Coming
coming_of outcome changes functions last = record {
  answer = outcome.answer;
  after = outcome.after;
  reply = outcome.reply;
  changes = changes;
  functions = functions;
  last = last;
}

-- The event comes to this with no trees, and its changes can be made.
pub record CanCome (setting : Setting) (old : State) (event : Event) (before : Option ℕ) (coming : Coming) : Type 0 where
  pub comes : ComesTo setting old event (outcome_of before coming) coming.changes coming.functions coming.last
  pub walks : way_of coming.answer ≡ walked 0
  pub no_leaf : leaf_of coming.answer ≡ None
  pub leads : CanLead old.now coming.changes
