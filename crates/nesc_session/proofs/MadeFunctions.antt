-- The functions that the files of functions and their requests make.
use Rattle.std.proofs.Common.{◌≡◌, ℕ, zero, suc, inl, inr, List, [], ◌∷◌, length, map, replicate, Option, None, Some, option_map, slice_get, refl, sym, ap, ◌∙◌, subst, arith}
use Rattle.std.specs.Prelude.{slice_set, unwrap_or}
use Rattle.std.specs.Option.{option_and_then}
use Rattle.std.proofs.lemmas.Option.{none-some, same_Some}
use Rattle.nesc_base.specs.declared.numbers.FileNo.{FileNo}
use Rattle.nesc_requests.specs.Script.{numbered, with_numbered}
use Rattle.hypervisor.proofs.Numbering.{numbered_within}
use Rattle.hypervisor.specs.Attachments.{Attachments, file_numbers, file_of}
use Rattle.plain_machine.specs.Functions.{Attached, Becomes, Function, attached_of, function_at, off}
use Rattle.plain_machine.specs.Machine.{restarted}
use Rattle.nesc_session.specs.Requests.{Requests, cleared, function_of, functions_of, no_requests}
use Rattle.nesc_session.proofs.Items.{numbered_cases, numbered_some, with_none, with_same}

-- What changes

-- one function has another file and other requests
pub functions_with_both : (files : Attachments) (all : List Requests) (f : ℕ) (file : Option FileNo) (requests : Requests)
    → functions_of (with_numbered files f file) (with_numbered all f requests) ≡ with_numbered (functions_of files all) f (function_of file requests)
functions_with_both files all zero file requests = refl
functions_with_both files all (suc i) file requests = at files all i
  where
    at : (files : Attachments) (all : List Requests) (i : ℕ) → functions_of (slice_set files i file) (slice_set all i requests) ≡ slice_set (functions_of files all) i (function_of file requests)
    at [] all i = refl
    at (one ∷ files) [] zero = refl
    at (one ∷ files) [] (suc i) = refl
    at (one ∷ files) (some ∷ all) zero = refl
    at (one ∷ files) (some ∷ all) (suc i) = ap (λ functions. function_of one some ∷ functions) (at files all i)

-- one function has other requests
pub functions_with : (files : Attachments) (all : List Requests) (f : ℕ) (requests : Requests)
    → functions_of files (with_numbered all f requests) ≡ with_numbered (functions_of files all) f (function_of (file_of files f) requests)
functions_with files all f requests = sym (ap (λ those. functions_of those (with_numbered all f requests)) (own (numbered files f) refl)) ∙ functions_with_both files all f (file_of files f) requests
  where
    own : (o : Option (Option FileNo)) → numbered files f ≡ o → with_numbered files f (unwrap_or o None) ≡ files
    own None is = with_none files f None is
    own (Some file) is = with_same files f file is

-- one function has another file
pub functions_with_file : (files : Attachments) (all : List Requests) (f : ℕ) (file : Option FileNo) (requests : Requests) → numbered all f ≡ Some requests
    → functions_of (with_numbered files f file) all ≡ with_numbered (functions_of files all) f (function_of file requests)
functions_with_file files all f file requests at = sym (ap (functions_of (with_numbered files f file)) (with_same all f requests at)) ∙ functions_with_both files all f file requests

-- What they are

-- the file of a function
abbrev pub file_number_of : Function → Option FileNo
file_number_of function = option_map (λ (attached : Attached). record { 0 = attached.file }) function.attached

module _ (files : Attachments) (all : List Requests) (as_many : length files ≡ length all) where
  -- there are as many
  pub length_functions : length (functions_of files all) ≡ length all
  length_functions = count files all as_many
    where
      count : (files : Attachments) (all : List Requests) → length files ≡ length all → length (functions_of files all) ≡ length all
      count [] all as_many = as_many
      count (file ∷ files) [] as_many = refl
      count (file ∷ files) (requests ∷ all) as_many = ap suc (count files all (omega arith))

  -- they have these files
  pub file_numbers_functions : file_numbers (functions_of files all) ≡ files
  file_numbers_functions = each files all as_many
    where
      own : (file : Option FileNo) (requests : Requests) → file_number_of (function_of file requests) ≡ file
      own None requests = refl
      own (Some file) requests = refl

      each : (files : Attachments) (all : List Requests) → length files ≡ length all → file_numbers (functions_of files all) ≡ files
      each [] all as_many = refl
      each (file ∷ files) [] as_many = absurd (omega arith)
      each (file ∷ files) (requests ∷ all) as_many =
          let first = own file requests in
          let rest = each files all (omega arith) in
          λ i. first i ∷ rest i

  module _ (f : ℕ) where
    -- the function of a number has the file and the requests of that number
    pub numbered_functions : (requests : Requests) → numbered all f ≡ Some requests → numbered (functions_of files all) f ≡ Some (function_of (file_of files f) requests)
    numbered_functions requests is = go f is
      where
        at : (files : Attachments) (all : List Requests) (i : ℕ) → length files ≡ length all → slice_get all i ≡ Some requests
            → slice_get (functions_of files all) i ≡ Some (function_of (unwrap_or (slice_get files i) None) requests)
        at files [] i as_many is = absurd (none-some requests is)
        at [] (some ∷ all) i as_many is = absurd (omega arith)
        at (file ∷ files) (some ∷ all) zero as_many is = ap (λ (one : Requests). Some (function_of file one)) (same_Some some requests is)
        at (file ∷ files) (some ∷ all) (suc i) as_many is = at files all i (omega arith) is

        go : (f : ℕ) → numbered all f ≡ Some requests → numbered (functions_of files all) f ≡ Some (function_of (file_of files f) requests)
        go zero is = absurd (none-some requests is)
        go (suc i) is = at files all i as_many is

    -- and there is none without requests
    pub numbered_none : numbered all f ≡ None → numbered (functions_of files all) f ≡ None
    numbered_none none = go f none
      where
        at : (files : Attachments) (all : List Requests) (i : ℕ) → slice_get all i ≡ None → slice_get (functions_of files all) i ≡ None
        at [] all i none = refl
        at (file ∷ files) [] i none = refl
        at (file ∷ files) (some ∷ all) zero none = absurd (none-some some (sym none))
        at (file ∷ files) (some ∷ all) (suc i) none = at files all i none

        go : (f : ℕ) → numbered all f ≡ None → numbered (functions_of files all) f ≡ None
        go zero none = refl
        go (suc i) none = at files all i none

    pub function_at_functions : (requests : Requests) → numbered all f ≡ Some requests → function_at (functions_of files all) f ≡ function_of (file_of files f) requests
    function_at_functions requests is = ap (λ o. unwrap_or o off) (numbered_functions requests is)

    pub attached_of_functions : (requests : Requests) → numbered all f ≡ Some requests → attached_of (functions_of files all) f ≡ (function_of (file_of files f) requests).attached
    attached_of_functions requests is = ap (option_and_then (λ (function : Function). function.attached)) (numbered_functions requests is)

    -- without a file it has nothing
    pub attached_of_off : file_of files f ≡ None → attached_of (functions_of files all) f ≡ None
    attached_of_off without = elim (numbered_cases all f) [
      | inl none ↦ ap (option_and_then (λ (function : Function). function.attached)) (numbered_none none)
      | inr some ↦ attached_of_functions some.0 some.1 ∙ ap (λ file. (function_of file some.0).attached) without
    ]

    pub function_at_off : file_of files f ≡ None → (function_at (functions_of files all) f).attached ≡ None
    function_at_off without = elim (numbered_cases all f) [
      | inl none ↦ ap (λ o. (unwrap_or o off).attached) (numbered_none none)
      | inr some ↦ ap (λ (function : Function). function.attached) (function_at_functions some.0 some.1) ∙ ap (λ file. (function_of file some.0).attached) without
    ]

    -- with one it has requests, if only none that wait
    pub requests_numbered : (file : FileNo) → file_of files f ≡ Some file → (requests : Requests) × (numbered all f ≡ Some requests)
    requests_numbered file on = elim (numbered_cases files f) [
      | inl none ↦ absurd (none-some file (sym (ap (λ o. unwrap_or o None) none) ∙ on))
      | inr some ↦ let within = numbered_within files f some.0 some.1 in numbered_some all f within.0 (omega (arith, within.1, as_many))
    ]

    -- one becomes another as its requests change
    pub function_becomes : (way : Function → Function → Type 0) (old new : Requests) → numbered all f ≡ Some old → way (function_of (file_of files f) old) (function_of (file_of files f) new)
        → Becomes way f (functions_of files all) (functions_of files (with_numbered all f new))
    function_becomes way old new is becomes = record {
      after = function_of (file_of files f) new;
      becomes = subst (λ (one : Function). way one (function_of (file_of files f) new)) (sym (function_at_functions old is)) becomes;
      others = functions_with files all f new;
    }

-- a function that stays as it was
pub function_stays : (functions : List Function) (f : ℕ) (way : Function → Function → Type 0) → way (function_at functions f) (function_at functions f) → Becomes way f functions functions
function_stays functions f way becomes = record { after = function_at functions f; becomes = becomes; others = sym (own (numbered functions f) refl) }
  where
    own : (o : Option Function) → numbered functions f ≡ o → with_numbered functions f (unwrap_or o off) ≡ functions
    own None is = with_none functions f off is
    own (Some function) is = with_same functions f function is

-- All of them

-- what a restart makes of them
pub functions_restarted : (files : Attachments) (all : List Requests) → length files ≡ length all
    → map restarted (functions_of files all) ≡ functions_of (replicate (length files) None) (map cleared all)
functions_restarted [] all as_many = refl
functions_restarted (file ∷ files) [] as_many = refl
functions_restarted (file ∷ files) (requests ∷ all) as_many =
    let first = own file requests in
    let rest = functions_restarted files all (omega arith) in
    λ i. first i ∷ rest i
  where
    own : (file : Option FileNo) (requests : Requests) → restarted (function_of file requests) ≡ function_of None (cleared requests)
    own None requests = refl
    own (Some file) requests = refl

-- and what they are before the first step
pub functions_at_start : (n most : ℕ) → functions_of (replicate n None) (replicate n (no_requests most)) ≡ replicate n off
functions_at_start zero most = refl
functions_at_start (suc n) most = ap (λ functions. off ∷ functions) (functions_at_start n most)
