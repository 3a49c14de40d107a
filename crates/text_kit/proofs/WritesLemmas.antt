-- Writing one text after another.
use Rattle.std.proofs.Common.{◌≡◌, ℕ, List, [], ◌++◌, Option, Some, None, Result, Ok, Err, IsErr, refl, sym, ap, subst, ◌∙◌, arith, append-nil, append_assoc}
use Rattle.std.proofs.lemmas.Result.{on_ok_weaker, IfOk-from_err}
use Rattle.nesc_base.specs.Fault.{Rose}
use Rattle.nesc_base.specs.Sink.{Appends, Grows, Lent, StaysLent}
use Rattle.nesc_base.specs.declared.sink.WriteFault.{WriteFault}
use Rattle.nesc_base.proofs.Causes.{cause_on}
use Rattle.text_kit.specs.Known.{AppendsPrefix}
use Rattle.text_kit.specs.Writes.{Writes}
use Rattle.text_kit.proofs.KnownLemmas.{Appends-append, AppendsPrefix-left, AppendsPrefix-right}

-- what only grew, and grew again, only grew
pub Grows-then : (old mid new : Option (List ℕ)) → Grows old mid → Grows mid new → Grows old new
Grows-then None mid new one other = tt
Grows-then (Some old) None new one other = absurd (cc)
Grows-then (Some old) (Some mid) new one other =
    let begun : mid ≡ old ++ one.0 = cc in (one.0 ++ other.0, other.1 ∙ ap Some (ap (λ bytes. bytes ++ other.0) begun ∙ append_assoc old one.0 other.0))

Grows-still : (known : Option (List ℕ)) → Grows known known
Grows-still None = tt
Grows-still (Some bytes) = ([], ap Some (sym (append-nil bytes)))

pub StaysLent-then : (old mid new : Lent) → StaysLent old mid → StaysLent mid new → StaysLent old new
StaysLent-then old mid new one other = record { same = other.same ∙ one.same; more = Grows-then old.handed mid.handed new.handed one.more other.more }

pub StaysLent-still : (lent : Lent) → StaysLent lent lent
StaysLent-still lent = record { same = refl; more = Grows-still lent.handed }

module _ {K : Type 0} (taken : K → Option (List ℕ)) (faults : K → ℕ) (lent : K → Lent) where
  -- behind a whole text came another, or the first bytes of it
  pub Writes-then : (old mid new : K) (xs ys : List ℕ) (answer : Result (Unit {0}) WriteFault) → Writes taken faults lent old mid xs (Ok tt) → Writes taken faults lent mid new ys answer → Writes taken faults lent old new (xs ++ ys) answer
  Writes-then old mid new xs ys answer one other = record {
    all = on_ok_weaker answer (Appends-append (taken old) (taken mid) (taken new) xs ys one.all) other.all;
    first = AppendsPrefix-right (taken old) (taken mid) (taken new) xs ys one.all other.first;
    stays_lent = StaysLent-then (lent old) (lent mid) (lent new) one.stays_lent other.stays_lent;
    cause = cause_on (faults old) (faults mid) (faults new) (IsErr answer) one.cause.never_falls other.cause;
  }

  -- where a text was cut short, so is a longer one
  pub Writes-cut : (old new : K) (xs ys : List ℕ) (fault : WriteFault) (answer : Result (Unit {0}) WriteFault) → IsErr answer → Writes taken faults lent old new xs (Err fault) → Writes taken faults lent old new (xs ++ ys) answer
  Writes-cut old new xs ys fault answer failed cut = record {
    all = IfOk-from_err answer _ failed;
    first = AppendsPrefix-left (taken old) (taken new) xs ys cut.first;
    stays_lent = cut.stays_lent;
    cause = record { never_falls = cut.cause.never_falls; rose = λ told. cut.cause.rose refl };
  }

  -- it is the same text
  pub Writes-same : (old new : K) (xs ys : List ℕ) (answer : Result (Unit {0}) WriteFault) → xs ≡ ys → Writes taken faults lent old new xs answer → Writes taken faults lent old new ys answer
  Writes-same old new xs ys answer same writes = let P : List ℕ → Type 0 = λ text. Writes taken faults lent old new text answer in subst P same writes

  -- where the sink did not fail, the whole text is written
  pub Writes-whole : (old new : K) (text : List ℕ) (answer : Result (Unit {0}) WriteFault) → Writes taken faults lent old new text answer → ¬ Rose (faults old) (faults new) → Appends (taken old) (taken new) text
  Writes-whole old new text (Ok done) writes sound = writes.all
  Writes-whole old new text (Err fault) writes sound = absurd (sound (writes.cause.rose refl))

-- nothing is written by no call
nothing : (known : Option (List ℕ)) → Appends known known []
nothing None = tt
nothing (Some bytes) = ap Some (sym (append-nil bytes))

nothing_first : (known : Option (List ℕ)) → AppendsPrefix known known []
nothing_first None = tt
nothing_first (Some bytes) = (0, omega arith, ap Some (sym (append-nil bytes)))

pub Writes-nothing : {K : Type 0} (taken : K → Option (List ℕ)) (faults : K → ℕ) (lent : K → Lent) (old : K) → Writes taken faults lent old old [] (Ok tt)
Writes-nothing taken faults lent old = record {
  all = nothing (taken old);
  first = nothing_first (taken old);
  stays_lent = StaysLent-still (lent old);
  cause = record { never_falls = omega arith; rose = λ failed. absurd (cc) };
}
