-- What is known of a result whose fault was named anew.
use Rattle.std.proofs.Common.{◌≡◌, refl, sym, ap, ◌∙◌, subst}
use Rattle.std.specs.Prelude.{IfOk, IsErrAnd, IsOk, MatchResult, Result, Ok, Err}
use Rattle.std.specs.Result.{is_ok}
use Rattle.std.proofs.lemmas.Result.{err_from_is_err_and}

module _ {T E F : Type 0} where
  -- another fault, where there was one
  pub ok_renamed : (P : T → Type 0) (Q : E → F → Type 0) (old : Result T E) (new : Result T F) → MatchResult old (λ x. new ≡ Ok x) (λ e. IsErrAnd new (Q e)) → IfOk old P → IfOk new P
  ok_renamed P Q (Ok x) new cases holds = subst (λ r. IfOk r P) (sym cases) holds
  ok_renamed P Q (Err e) new cases holds = let is = err_from_is_err_and new cases in subst (λ r. IfOk r P) (sym is.1) tt

  -- where there is one now there was one
  pub err_renamed : (Q : E → F → Type 0) (old : Result T E) (new : Result T F) (fault : F) → MatchResult old (λ x. new ≡ Ok x) (λ e. IsErrAnd new (Q e)) → new ≡ Err fault
      → (e : E) × (old ≡ Err e) × Q e fault
  err_renamed Q (Ok x) new fault cases is = absurd (subst (λ r. IfOk r (λ _. ⊥)) (sym (sym cases ∙ is)) tt)
  err_renamed Q (Err e) new fault cases is = (e, refl, subst (λ r. IsErrAnd r (Q e)) is cases)

  -- and where there is none there was none
  pub was_ok : (old : Result T E) (new : Result T F) (x : T) → is_ok new ≡ is_ok old → new ≡ Ok x → IsOk old
  was_ok old new x same is = sym same ∙ ap is_ok is

pub same_err : {T F : Type 0} (one other : F) → ◌≡◌ {A = Result T F} (Err one) (Err other) → one ≡ other
same_err one other is = subst (λ r. IsErrAnd r (λ f. one ≡ f)) is refl
