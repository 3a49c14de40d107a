-- What an optional answer says of the question.
use Rattle.std.proofs.Common.{◌≡◌, true, Option, Some, None, MatchOption}
use Rattle.std.specs.Option.{is_some}
use Rattle.std.proofs.lemmas.Bool.{false≢true}

-- there is an answer, and what is said of it holds
pub found_from_is_some : {X : Type 0} (o : Option X) (P : Type 0) (Q : X → Type 0) → MatchOption o P Q → is_some o ≡ true → (x : X) × Q x
found_from_is_some None P Q h some = absurd (false≢true some)
found_from_is_some (Some x) P Q h some = (x, h)
