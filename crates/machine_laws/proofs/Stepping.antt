-- What an event does, where it is no restart.
use Rattle.std.proofs.Common.{◌≡◌, ℕ, List, Option, None, Some, refl}
use Rattle.nesc_requests.specs.declared.event.Event.{Event}
use Rattle.nesc_requests.specs.declared.event.Event.TheVariants.{Handle, Restart}
use Rattle.file_model.specs.Files.{Change}
use Rattle.plain_machine.specs.Machine.{Does, MayBuild, Moves}
use Rattle.plain_machine.specs.State.{State, committed}
use Rattle.plain_machine.specs.declared.outcome.Outcome.{Outcome}
use Rattle.plain_machine.specs.declared.setting.Setting.{Setting}
use Rattle.machine_laws.proofs.Events.{IsNoRestart, come}
use Rattle.machine_laws.proofs.Outcomes.{Given}

module _ (setting : Setting) (old : State) (changes : List Change) (outcome : Outcome) (new : State) where
  pub does_so : (event : Event) → IsNoRestart event → Moves setting old event changes outcome new → Does setting old event changes outcome new
  does_so Restart goes moves = absurd goes
  does_so event goes moves = moves

  pub moves_so : (event : Event) → IsNoRestart event → Does setting old event changes outcome new → Moves setting old event changes outcome new
  moves_so Restart goes does = absurd goes
  moves_so event goes does = does

-- no event has to build a path
pub builds_none : (event : Event) → MayBuild event None
builds_none (Handle f) = tt
builds_none event = refl

-- a commit before the event changes nothing of what it comes to
pub come_committed : (setting : Setting) (old : State) (event : Event) (given : Given) (before : Option ℕ)
    → come setting (committed before old) event given ≡ come setting old event given
come_committed setting old event given None = refl
come_committed setting old event given (Some clock) = refl
