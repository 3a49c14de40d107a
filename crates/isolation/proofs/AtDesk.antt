-- What one of the functions has after one of them became another.
use Rattle.std.proofs.Common.{◌≡◌, ◌≢◌, ◌⊎◌, inl, inr, ℕ, zero, suc, ◌==◌, true, false, List, [], ◌∷◌, map, slice_get, slice_set, Option, Some, None, refl, ap}
use Rattle.std.specs.Prelude.{is_none, unwrap_or}
use Rattle.std.specs.Option.{option_and_then}
use Rattle.std.proofs.lemmas.Bool.{cond-false, cond-true, false≢true}
use Rattle.std.proofs.lemmas.Option.{none-some}
use Rattle.nesc_base.proofs.Differing.{slice_get-set_other}
use Rattle.nesc_requests.specs.Script.{numbered, with_numbered}
use Rattle.plain_machine.specs.Functions.{Attached, Function, attached_of, function_at, has_file, is_off, off}
use Rattle.plain_machine.specs.Machine.{restarted}
use Rattle.machine_laws.proofs.Runnable.{attached_from_function}
use Rattle.isolation.specs.Solo.{desk_of}

-- what a function has is what stands at its number
pub attached_at : (functions : List Function) (f : ℕ) → attached_of functions f ≡ (function_at functions f).attached
attached_at functions f = attached_from_function (numbered functions f)

abbrev has_at : List Function → ℕ → Option Attached
has_at functions i = option_and_then (λ (function : Function). function.attached) (slice_get functions i)

-- one that has something is one of the functions
set_some : (functions : List Function) (i : ℕ) (after : Function) (attached : Attached) → has_at functions i ≡ Some attached
    → has_at (slice_set functions i after) i ≡ after.attached
set_some [] i after attached on = absurd (none-some attached on)
set_some (one ∷ functions) zero after attached on = refl
set_some (one ∷ functions) (suc i) after attached on = set_some functions i after attached on

pub attached_with_same : (functions : List Function) (f : ℕ) (after : Function) (attached : Attached) → attached_of functions f ≡ Some attached
    → attached_of (with_numbered functions f after) f ≡ after.attached
attached_with_same functions zero after attached on = absurd (none-some attached on)
attached_with_same functions (suc i) after attached on = set_some functions i after attached on

-- another has what it had
pub attached_with_other : (functions : List Function) (f g : ℕ) (after : Function) → f ≢ g
    → attached_of (with_numbered functions g after) f ≡ attached_of functions f
attached_with_other functions f zero after apart = refl
attached_with_other functions zero (suc j) after apart = refl
attached_with_other functions (suc i) (suc j) after apart =
    ap (option_and_then (λ (function : Function). function.attached)) (slice_get-set_other functions j i after (λ same. apart (ap suc same)))

set_still : (functions : List Function) (i : ℕ) (after : Function) → after.attached ≡ (unwrap_or (slice_get functions i) off).attached
    → has_at (slice_set functions i after) i ≡ has_at functions i
set_still [] i after still = refl
set_still (one ∷ functions) zero after still = still
set_still (one ∷ functions) (suc i) after still = set_still functions i after still

-- one that keeps what it had has that
pub attached_with_still : (functions : List Function) (f : ℕ) (after : Function) → after.attached ≡ (function_at functions f).attached
    → attached_of (with_numbered functions f after) f ≡ attached_of functions f
attached_with_still functions zero after still = refl
attached_with_still functions (suc i) after still = set_still functions i after still

-- one that is off has nothing, and is one of the functions
pub record IsGiven (functions : List Function) (f : ℕ) (after : Function) : Type 0 where
  pub off : attached_of functions f ≡ None
  pub now : attached_of (with_numbered functions f after) f ≡ after.attached

none_from_is_none : {X : Type 0} (o : Option X) → is_none o ≡ true → o ≡ None
none_from_is_none None is = refl
none_from_is_none (Some x) is = absurd (false≢true is)

set_off : (functions : List Function) (i : ℕ) (after : Function) → is_off functions (suc i) ≡ true → IsGiven functions (suc i) after
set_off [] i after off = absurd (false≢true off)
set_off (one ∷ functions) zero after off = record { off = none_from_is_none one.attached off; now = refl }
set_off (one ∷ functions) (suc i) after off =
    let given = set_off functions i after off in record { off = given.off; now = given.now }

pub attached_with_off : (functions : List Function) (f : ℕ) (after : Function) → is_off functions f ≡ true → IsGiven functions f after
attached_with_off functions zero after off = absurd (false≢true off)
attached_with_off functions (suc i) after off = set_off functions i after off

set_or_past : (functions : List Function) (i : ℕ) (after : Function)
    → (has_at (slice_set functions i after) i ≡ after.attached) ⊎ (has_at (slice_set functions i after) i ≡ has_at functions i)
set_or_past [] i after = inr refl
set_or_past (one ∷ functions) zero after = inl refl
set_or_past (one ∷ functions) (suc i) after = set_or_past functions i after

-- it has what came, or there is no such function
pub attached_with : (functions : List Function) (f : ℕ) (after : Function)
    → (attached_of (with_numbered functions f after) f ≡ after.attached) ⊎ (attached_of (with_numbered functions f after) f ≡ attached_of functions f)
attached_with functions zero after = inr refl
attached_with functions (suc i) after = set_or_past functions i after

restarted_at : (functions : List Function) (i : ℕ) → has_at (map restarted functions) i ≡ None
restarted_at [] i = refl
restarted_at (one ∷ functions) zero = refl
restarted_at (one ∷ functions) (suc i) = restarted_at functions i

-- after a restart none has anything
pub attached_restarted : (functions : List Function) (f : ℕ) → attached_of (map restarted functions) f ≡ None
attached_restarted functions zero = refl
attached_restarted functions (suc i) = restarted_at functions i

-- Desks

pub desk_with : (n : ℕ) (desk : Attached) → (desk.file == n) ≡ true → desk_of n (Some desk) ≡ Some desk
desk_with n desk is = cond-true (desk.file == n) _ _ is

pub desk_without : (n : ℕ) (desk : Attached) → (desk.file == n) ≡ false → desk_of n (Some desk) ≡ None
desk_without n desk is = cond-false (desk.file == n) _ _ is

-- without the file there is none
pub no_desk : (n : ℕ) (has : Option Attached) → has_file n has ≡ false → desk_of n has ≡ None
no_desk n None is = refl
no_desk n (Some desk) is = desk_without n desk is

-- with it there is one
pub desk_of_file : (n : ℕ) (has : Option Attached) → has_file n has ≡ true → (desk : Attached) × (has ≡ Some desk) × ((desk.file == n) ≡ true)
desk_of_file n None is = absurd (false≢true is)
desk_of_file n (Some desk) is = (desk, refl, is)
