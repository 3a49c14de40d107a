-- A step that keeps no files tells of no commit.
use Rattle.std.proofs.Common.{◌≡◌, None}
use Rattle.std.specs.Prelude.{Err, IfOk, Ok, Result}
use Rattle.plain_machine.specs.declared.outcome.Outcome.{Outcome}

-- what keeps files says nothing of that
pub quiet_where_kept : {F : Type 0} (P : Type 0) → P → (result : Result Outcome F) → IfOk result (λ outcome. (P → ⊥) → outcome.after ≡ None)
quiet_where_kept P keeps (Ok outcome) = λ none. absurd (none keeps)
quiet_where_kept P keeps (Err fault) = tt
