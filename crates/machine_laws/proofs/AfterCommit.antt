-- What a commit leaves as it is.
use Rattle.std.proofs.Common.{◌≡◌, ℕ, Option, Some, None, refl}
use Rattle.plain_machine.specs.State.{State, committed}

module _ (state : State) where
  pub functions_committed : (clock : Option ℕ) → (committed clock state).functions ≡ state.functions
  functions_committed None = refl
  functions_committed (Some at) = refl

  pub now_committed : (clock : Option ℕ) → (committed clock state).now ≡ state.now
  now_committed None = refl
  now_committed (Some at) = refl

  pub last_committed : (clock : Option ℕ) → (committed clock state).last ≡ state.last
  last_committed None = refl
  last_committed (Some at) = refl
