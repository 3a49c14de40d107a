-- Requests that were cleared, one after another, and functions that have no file.
use Rattle.std.proofs.Common.{◌≡◌, inl, inr, ℕ, zero, suc, ◌+◌, ◌<◌, ◌≤◌, List, [], length, map, replicate, slice_get, slice_index_or, Option, Some, None, option_map, refl, sym, ap, subst, ◌∙◌, arith}
use Rattle.std.specs.Prelude.{slice_set, unwrap_or}
use Rattle.std.proofs.lemmas.Bool.{cases_eq, cases_lt}
use Rattle.std.proofs.lemmas.Option.{none-some, same_Some, slice_get-get_or, slice_get-map, slice_get_past}
use Rattle.std.proofs.lemmas.List.{length-map, length-set}
use Rattle.nesc_base.specs.declared.numbers.FileNo.{FileNo}
use Rattle.nesc_base.proofs.Differing.{same_by_places, slice_get-set_other, slice_get-set_same}
use Rattle.nesc_requests.specs.Script.{numbered}
use Rattle.hypervisor.specs.Attachments.{file_of}
use Rattle.hypervisor.proofs.Numbering.{numbered_map}
use Rattle.nesc_session.specs.Requests.{HoldsUpTo, Requests, cleared}
use Rattle.nesc_session.proofs.Idle.{idle_cleared}

-- One after another

-- the first so many are cleared, and the others as before
pub record AreCleared (old new : List Requests) (n : ℕ) : Type 0 where
  pub long : length new ≡ length old
  pub first : (k : ℕ) → k < n → slice_get new k ≡ option_map cleared (slice_get old k)
  pub others : (k : ℕ) → n ≤ k → slice_get new k ≡ slice_get old k

pub none_cleared : (old : List Requests) → AreCleared old old 0
none_cleared old = record { long = refl; first = λ k below. absurd (omega arith); others = λ k up. refl }

pub one_cleared : (old new : List Requests) (n : ℕ) (item put : Requests) → AreCleared old new n → n < length new → item ≡ slice_index_or new n item → put ≡ cleared item
    → AreCleared old (slice_set new n put) (n + 1)
one_cleared old new n item put are within is made =
    let here : slice_get old n ≡ Some item = sym (are.others n (omega arith)) ∙ slice_get-get_or new n item within ∙ ap Some (sym is) in
    record {
      long = length-set new n put ∙ are.long;
      first = λ k below. elim (cases_eq k n) [
        | inl same ↦
            ap (slice_get (slice_set new n put)) same ∙ slice_get-set_same new n put within ∙ ap Some made
            ∙ sym (ap (option_map cleared) (ap (slice_get old) same ∙ here))
        | inr apart ↦ slice_get-set_other new n k put apart ∙ are.first k (omega (arith, below, apart))
      ];
      others = λ k up. slice_get-set_other new n k put (λ same. omega (arith, up, same)) ∙ are.others k (omega (arith, up));
    }

pub all_cleared : (old new : List Requests) (n : ℕ) → AreCleared old new n → length new ≤ n → new ≡ map cleared old
all_cleared old new n are all = same_by_places new (map cleared old) (λ k. elim (cases_lt k n) [
  | inl below ↦ are.first k below ∙ sym (slice_get-map cleared old k)
  | inr up ↦ slice_get_past new k (omega (arith, all, up)) ∙ sym (slice_get_past (map cleared old) k (omega (arith, are.long, all, up, length-map old cleared)))
])

-- All of them

none_at : (n k : ℕ) → unwrap_or (slice_get (replicate {A = Option FileNo} n None) k) None ≡ None
none_at zero k = refl
none_at (suc n) zero = refl
none_at (suc n) (suc k) = none_at n k

-- no function has a file
pub no_file : (n f : ℕ) → file_of (replicate n None) f ≡ None
no_file n zero = refl
no_file n (suc k) = none_at n k

-- and no request waits
pub none_waits : (all : List Requests) (f : ℕ) (requests : Requests) → numbered (map cleared all) f ≡ Some requests → length requests.queue.requests ≡ 0
none_waits all f requests at = idle_cleared [] all f requests at (no_file 0 f)

-- as many may wait as before
pub still_cleared : (most : ℕ) (all : List Requests) → ((f : ℕ) (requests : Requests) → numbered all f ≡ Some requests → HoldsUpTo most requests.queue)
    → (f : ℕ) (requests : Requests) → numbered (map cleared all) f ≡ Some requests → HoldsUpTo most requests.queue
still_cleared most all few f requests at = was (numbered all f) refl (sym (numbered_map cleared all f) ∙ at)
  where
    was : (o : Option Requests) → numbered all f ≡ o → option_map cleared o ≡ Some requests → HoldsUpTo most requests.queue
    was None there is = absurd (none-some requests is)
    was (Some before) there is =
        let depth = (few f before there).depth in
        subst (λ (those : Requests). HoldsUpTo most those.queue) (same_Some (cleared before) requests is) (record { depth = depth; within = omega arith })
