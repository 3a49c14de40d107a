-- The function that is taken next is runnable, and what that says of it.
use Rattle.std.proofs.Common.{◌≡◌, ℕ, zero, suc, ◌<◌, ◌≤◌, Bool, true, false, not, cond, List, [], ◌∷◌, length, slice_get, Option, Some, None, refl, sym, ap, ◌∙◌, subst, arith}
use Rattle.std.specs.Prelude.{is_none, unwrap_or}
use Rattle.std.specs.List.{find}
use Rattle.std.specs.Option.{option_and_then}
use Rattle.std.proofs.lemmas.Bool.{and_parts, false≢true}
use Rattle.std.proofs.lemmas.Option.{none-some, same_Some}
use Rattle.nesc_requests.specs.Script.{numbered}
use Rattle.plain_machine.specs.Functions.{Attached, Function, function_at, in_turn, is_empty, is_ready, is_runnable, next_runnable, off}

found_first : (p : ℕ → Bool) (rest : Option ℕ) (x y : ℕ) (b : Bool) → p y ≡ b → (rest ≡ Some x → p x ≡ true)
    → cond b (Some y) rest ≡ Some x → p x ≡ true
found_first p rest x y true passes later is = subst (λ (n : ℕ). p n ≡ true) (same_Some y x is) passes
found_first p rest x y false fails later is = later is

-- what is found passes
pub found_passes : (p : ℕ → Bool) (xs : List ℕ) (x : ℕ) → find p xs ≡ Some x → p x ≡ true
found_passes p [] x is = absurd (none-some x is)
found_passes p (y ∷ xs) x is = found_first p (find p xs) x y (p y) refl (found_passes p xs x) is

pub next_is_runnable : (functions : List Function) (last f : ℕ) → next_runnable functions last ≡ Some f → is_runnable functions f ≡ true
next_is_runnable functions last f next = found_passes (is_runnable functions) (in_turn last (length functions)) f next

-- what a function has is what stands at its number
pub attached_from_function : (found : Option Function)
    → option_and_then (λ (function : Function). function.attached) found ≡ (unwrap_or found off).attached
attached_from_function None = refl
attached_from_function (Some function) = refl

none_from_is_none : {X : Type 0} (o : Option X) → is_none o ≡ true → o ≡ None
none_from_is_none None is = refl
none_from_is_none (Some x) is = absurd (false≢true is)

-- what a function that is runnable has waits for nothing
pub waits_for_nothing : (functions : List Function) (f : ℕ) (attached : Attached) → is_runnable functions f ≡ true
    → (function_at functions f).attached ≡ Some attached → attached.waiting ≡ None
waits_for_nothing functions f attached runnable on =
    let ready : is_ready (Some attached) ≡ true = sym (ap is_ready (attached_from_function (numbered functions f) ∙ on)) ∙ runnable in
    none_from_is_none attached.waiting (and_parts (not (is_empty attached.queue)) (is_none attached.waiting) ready).1

got_within : (functions : List Function) (i : ℕ)
    → is_ready (option_and_then (λ (function : Function). function.attached) (slice_get functions i)) ≡ true → i < length functions
got_within [] i ready = absurd (false≢true ready)
got_within (one ∷ functions) zero ready = omega arith
got_within (one ∷ functions) (suc i) ready = omega (arith, got_within functions i ready)

-- a function that is runnable is one of the functions
pub runnable_within : (functions : List Function) (f : ℕ) → is_runnable functions f ≡ true → (1 ≤ f) × (f ≤ length functions)
runnable_within functions zero runnable = absurd (false≢true runnable)
runnable_within functions (suc i) runnable = (omega arith, omega (arith, got_within functions i runnable))
