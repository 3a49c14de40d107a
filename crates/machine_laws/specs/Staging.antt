-- How many data blocks an event stages, by what it was answered.
use Rattle.std.specs.Prelude.{◌≡◌, ℕ, if◌then◌else◌, length}
use Rattle.nesc_base.specs.Files.{File, Files}
use Rattle.nesc_requests.specs.declared.event.Event.{Event}
use Rattle.nesc_requests.specs.declared.event.Event.TheVariants.{Tick, Host, Handle}
use Rattle.nesc_requests.specs.declared.host.HostAnswer.{HostAnswer}
use Rattle.nesc_requests.specs.declared.host.HostAnswer.TheVariants.{Ok}
use Rattle.nesc_requests.specs.declared.host.HostCommand.{HostCommand}
use Rattle.nesc_requests.specs.declared.host.HostCommand.TheVariants.{Put, Map}
use Rattle.file_model.specs.Files.{HasName, unheld}
use Rattle.plain_machine.specs.Functions.{Function, function_at}
use Rattle.plain_machine.specs.Machine.{has_write_first}
use Rattle.plain_machine.specs.State.{State}
use Rattle.plain_machine.specs.declared.outcome.Answer.{Answer}
use Rattle.plain_machine.specs.declared.outcome.Answer.TheVariants as happened
use Rattle.plain_machine.specs.declared.outcome.Handled.{Handled}
use Rattle.plain_machine.specs.declared.outcome.Handled.TheVariants as held
use Rattle.plain_machine.specs.declared.outcome.How.{How}
use Rattle.plain_machine.specs.declared.outcome.How.TheVariants.{Hit, Walk}

-- a `put` that is done stages each of its blocks, and a `map` each that was not held
abbrev pub StagedByHost : Files → HostCommand → HostAnswer → ℕ → Type 0
StagedByHost files (Put name v blocks) Ok count = count ≡ length blocks
StagedByHost files (Map name v n) Ok count = (number : ℕ) (file : File) → HasName files name number file
    → count ≡ length (unheld file v n)
StagedByHost files command answer count = count ≡ 0

-- serving a block stages it where it is for a write, which comes to where it is kept
abbrev pub staged_by_serving : Function → How → ℕ
staged_by_serving function Hit = if has_write_first function then 1 else 0
staged_by_serving function (Walk fetched) = if has_write_first function then 1 else 0
staged_by_serving function how = 0

-- a handling stages as many as it says that it held
abbrev pub staged_by_handling : Handled → ℕ
staged_by_handling (held.Held count) = count
staged_by_handling handled = 0

-- An event that comes to a state and is answered so stages so many. The answer to a tick says no more than which
-- function was served, so whether that was for a write is seen in the state.
abbrev pub AreStaged : State → Event → Answer → ℕ → Type 0
AreStaged old (Host command) (happened.Host said) count = StagedByHost old.now command said count
AreStaged old Tick (happened.Served f v how) count = count ≡ staged_by_serving (function_at old.functions f.0) how
AreStaged old (Handle f) (happened.Handled g done) count = count ≡ staged_by_handling done
AreStaged old event answer count = count ≡ 0
