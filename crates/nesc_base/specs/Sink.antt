-- What a sink says of the bytes that it takes.
use Rattle.std.specs.Prelude.{◌≡◌, ℕ, ◌<◌, ◌++◌, List, [], length, Option, Some, None, Result, Ok, Err}
use Rattle.std.specs.Borrow.{GName}
use Rattle.nesc_base.specs.declared.sink.WriteFault.{WriteFault}

-- where the sink tells what it has taken, these bytes came behind it
abbrev pub Appends : Option (List ℕ) → Option (List ℕ) → List ℕ → Type 0
Appends None new bytes = Unit {0}
Appends (Some old) new bytes = new ≡ Some (old ++ bytes)

-- none of these bytes was taken, though there are some
abbrev pub TakesNone : List ℕ → Result ℕ WriteFault → Type 0
TakesNone bytes (Ok n) = (n ≡ 0) × (0 < length bytes)
TakesNone bytes (Err e) = Unit {0}

-- A sink that hands its bytes on is lent the sink behind it: by which loans, and what that one has taken, where it
-- tells it.
pub record Lent : Type 0 where
  pub loans : List GName
  pub handed : Option (List ℕ)

abbrev pub not_lent : Lent
not_lent = record { loans = []; handed = None }

-- where the bytes are told, only more came behind them
abbrev pub Grows : Option (List ℕ) → Option (List ℕ) → Type 0
Grows None new = Unit {0}
Grows (Some old) new = (more : List ℕ) × (new ≡ Some (old ++ more))

-- no loan was exchanged for another, and the sink behind has only taken more
pub record StaysLent (old new : Lent) : Type 0 where
  pub same : new.loans ≡ old.loans
  pub more : Grows old.handed new.handed
