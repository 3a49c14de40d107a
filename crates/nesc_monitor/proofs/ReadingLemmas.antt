-- What was taken of a source so far.
use Rattle.std.proofs.Common.{ℕ, ◌+◌, ◌≤◌, List, length, drop, Option, Some, None, refl, sym, ap, subst, ◌∙◌, arith}
use Rattle.std.proofs.Math.Seq.{drop-append-add, drop-append_seam}
use Rattle.nesc_base.specs.Source.{GivesFirst}
use Rattle.nesc_monitor.specs.Reading.{GivesFront, TakesFront}

-- nothing of it
pub TakesFront-none : (left : Option (List ℕ)) → TakesFront left left
TakesFront-none None = tt
TakesFront-none (Some bytes) = (0, omega arith, refl)

-- the front that was given
pub TakesFront-front : (front : List ℕ) (old new : Option (List ℕ)) → length front ≤ 16777217 → GivesFront front old new → TakesFront old new
TakesFront-front front None new within gives = tt
TakesFront-front front (Some bytes) new within gives =
    (length front, within, gives.2 ∙ ap Some (sym (drop-append_seam front gives.0) ∙ ap (drop (length front)) (sym gives.1)))

-- and then the first bytes of what was left
pub TakesFront-more : (front buffer : List ℕ) (n : ℕ) (old mid new : Option (List ℕ)) → length front + n ≤ 16777217 → GivesFront front old mid → GivesFirst n buffer mid new → TakesFront old new
TakesFront-more front buffer n None mid new within gives first = tt
TakesFront-more front buffer n (Some bytes) mid new within gives first =
    let then = subst (λ left. GivesFirst n buffer left new) gives.2 first in
    (length front + n, within, then.rest ∙ ap Some (sym (drop-append-add front gives.0 n) ∙ ap (drop (length front + n)) (sym gives.1)))
