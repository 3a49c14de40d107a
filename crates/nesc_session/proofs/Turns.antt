-- Which function is next: the first that is ready behind the last one, or else the first that is ready up to it.
use Rattle.std.proofs.Common.{◌≡◌, ℕ, suc, ◌+◌, ◌-◌, ◌<◌, ◌≤◌, inl, inr, not, ◌&&◌, is_none, Bool, true, false, cond, List, [], ◌∷◌, length, take, drop, Option, None, Some, slice_get, refl, sym, ap, subst, ◌∙◌, arith}
use Rattle.std.proofs.lemmas.Iterator.Adapters.{position_from-zero}
use Rattle.std.proofs.lemmas.Bool.{false≢true}
use Rattle.std.proofs.lemmas.List.{length-drop, length-take, nil_from_length}
use Rattle.std.proofs.lemmas.List.Folds.{find-append}
use Rattle.std.proofs.lemmas.Option.{none-some, same_Some, slice_get_within}
use Rattle.std.specs.List.{find, position_from, range_with_len}
use Rattle.std.specs.Option.{option_map, option_or, option_and_then}
use Rattle.nesc_base.specs.declared.numbers.FileNo.{FileNo}
use Rattle.nesc_requests.specs.Script.{numbered}
use Rattle.image_layout.proofs.OneMap.{slice_get-drop}
use Rattle.host_journal.proofs.Stored.{slice_get-take}
use Rattle.hypervisor.specs.Attachments.{Attachments, file_of}
use Rattle.plain_machine.specs.Functions.{Function, in_turn, is_empty, is_ready, is_runnable, next_runnable}
use Rattle.nesc_session.specs.Requests.{Requests, functions_of, is_ready_for, position_ready}
use Rattle.nesc_session.specs.Resting.{IsIdleWhereOff}
use Rattle.nesc_session.proofs.Idle.{IsIdleIfOff, ready_as}
use Rattle.nesc_session.proofs.Items.{numbered_cases}
use Rattle.nesc_session.proofs.MadeFunctions.{attached_of_functions, length_functions, numbered_none}

found_first : (p : ℕ → Bool) (xs : List ℕ) (x y : ℕ) (b : Bool) → p y ≡ b → (find p xs ≡ Some x → p x ≡ true) → cond b (Some y) (find p xs) ≡ Some x → p x ≡ true
found_first p xs x y true passes later is = subst (λ (n : ℕ). p n ≡ true) (same_Some y x is) passes
found_first p xs x y false fails later is = later is

found_passes : (p : ℕ → Bool) (xs : List ℕ) (x : ℕ) → find p xs ≡ Some x → p x ≡ true
found_passes p [] x is = absurd (none-some x is)
found_passes p (y ∷ xs) x is = found_first p xs x y (p y) refl (found_passes p xs x) is

-- the first of some functions in a row that is runnable is the first that is ready among their requests
find_in_row : (functions : List Function) (row : List Requests) (at base i : ℕ) → at ≡ base + 1 + i
    → ((k : ℕ) (requests : Requests) → slice_get row k ≡ Some requests → is_runnable functions (at + k) ≡ is_ready_for requests)
    → find (is_runnable functions) (range_with_len at (length row)) ≡ option_map (λ j. base + 1 + j) (position_from is_ready_for i row)
find_in_row functions [] at base i is same = refl
find_in_row functions (x ∷ row) at base i is same =
    ap (λ b. cond b (Some at) (find (is_runnable functions) (range_with_len (at + 1) (length row)))) here
    ∙ step (is_ready_for x) (find_in_row functions row (at + 1) base (i + 1) (omega arith) (λ k requests there. ap (is_runnable functions) (next k) ∙ same (suc k) requests there))
  where
    here : is_runnable functions at ≡ is_ready_for x
    here = let stays : at ≡ at + 0 = omega arith in ap (is_runnable functions) stays ∙ same 0 x refl

    next : (k : ℕ) → at + 1 + k ≡ at + suc k
    next k = omega arith

    step : (b : Bool) → find (is_runnable functions) (range_with_len (at + 1) (length row)) ≡ option_map (λ j. base + 1 + j) (position_from is_ready_for (i + 1) row)
        → cond b (Some at) (find (is_runnable functions) (range_with_len (at + 1) (length row))) ≡ option_map (λ j. base + 1 + j) (cond b (Some i) (position_from is_ready_for (i + 1) row))
    step true rest = ap Some is
    step false rest = rest

in_row : (functions : List Function) (row : List Requests) (at base : ℕ) → at ≡ base + 1
    → ((k : ℕ) (requests : Requests) → slice_get row k ≡ Some requests → is_runnable functions (at + k) ≡ is_ready_for requests)
    → find (is_runnable functions) (range_with_len at (length row)) ≡ option_map (λ j. base + 1 + j) (position_ready row)
in_row functions row at base is same = find_in_row functions row at base 0 (omega arith) same ∙ ap (option_map (λ j. base + 1 + j)) (sym (position_from-zero is_ready_for row))

-- The functions that the files of functions and their requests make
module _ (files : Attachments) (all : List Requests) (as_many : length files ≡ length all) (idle : IsIdleWhereOff files all) where
  abbrev functions : List Function
  functions = functions_of files all

  -- a function is runnable that is ready
  pub runnable_as : (f : ℕ) (requests : Requests) → numbered all f ≡ Some requests → is_runnable functions f ≡ is_ready_for requests
  runnable_as f requests is =
      ap is_ready (attached_of_functions files all as_many f requests is) ∙ ready_as (file_of files f) requests (idle f requests is)

  behind : (last : ℕ) → last ≤ length all
      → find (is_runnable functions) (range_with_len (last + 1) (length functions - last)) ≡ option_map (λ j. last + 1 + j) (position_ready (drop last all))
  behind last within =
      ap (λ n. find (is_runnable functions) (range_with_len (last + 1) n)) count
      ∙ in_row functions (drop last all) (last + 1) last refl
      (λ k requests there. ap (is_runnable functions) (next k) ∙ runnable_as (suc (last + k)) requests (sym (slice_get-drop last all k) ∙ there))
    where
      count : length functions - last ≡ length (drop last all)
      count = omega (arith, length-drop last all, length_functions files all as_many)

      next : (k : ℕ) → last + 1 + k ≡ suc (last + k)
      next k = omega arith

  up_to : (last : ℕ) → last ≤ length all
      → find (is_runnable functions) (range_with_len 1 last) ≡ option_map (λ j. 1 + j) (position_ready (take last all))
  up_to last within =
      ap (λ n. find (is_runnable functions) (range_with_len 1 n)) count
      ∙ in_row functions (take last all) 1 0 refl
      (λ k requests there. ap (is_runnable functions) (next k) ∙ runnable_as (suc k) requests (sym (slice_get-take last all k (below k requests there)) ∙ there))
    where
      count : last ≡ length (take last all)
      count = omega (arith, length-take last all)

      next : (k : ℕ) → 1 + k ≡ suc k
      next k = omega arith

      below : (k : ℕ) (requests : Requests) → slice_get (take last all) k ≡ Some requests → k < last
      below k requests there = omega (arith, slice_get_within (take last all) k requests there, count)

  split : (last : ℕ) → last ≤ length all
      → next_runnable functions last ≡ option_or (option_map (λ j. last + 1 + j) (position_ready (drop last all))) (option_map (λ j. 1 + j) (position_ready (take last all)))
  split last within =
      find-append (is_runnable functions) (range_with_len (last + 1) (length functions - last)) (range_with_len 1 last)
      ∙ (λ i. option_or (behind last within i) (up_to last within i))

  -- it is the first ready one behind the last
  pub next_behind : (last i : ℕ) → last ≤ length all → position_ready (drop last all) ≡ Some i → Some (last + i + 1) ≡ next_runnable functions last
  next_behind last i within is =
      let next : last + i + 1 ≡ last + 1 + i = omega arith in
      ap Some next ∙ sym (split last within ∙ ap (λ o. option_or (option_map (λ j. last + 1 + j) o) (option_map (λ j. 1 + j) (position_ready (take last all)))) is)

  -- or, where none is, the first ready one up to the last
  pub next_up_to : (last : ℕ) → last ≤ length all → position_ready (drop last all) ≡ None → option_map (λ j. j + 1) (position_ready (take last all)) ≡ next_runnable functions last
  next_up_to last within none =
      at (position_ready (take last all))
      ∙ sym (split last within ∙ ap (λ o. option_or (option_map (λ j. last + 1 + j) o) (option_map (λ j. 1 + j) (position_ready (take last all)))) none)
    where
      at : (o : Option ℕ) → option_map (λ j. j + 1) o ≡ option_map (λ j. 1 + j) o
      at None = refl
      at (Some j) = ap Some (omega arith)

  -- the function that is next has a file, and is ready
  pub next_ready : (last f : ℕ) → next_runnable functions last ≡ Some f
      → (requests : Requests) × (numbered all f ≡ Some requests) × (is_ready_for requests ≡ true) × ((file : FileNo) × (file_of files f ≡ Some file))
  next_ready last f next = elim (numbered_cases all f) [
    | inl none ↦ absurd (false≢true (sym (ap (λ o. is_ready (option_and_then (λ (function : Function). function.attached) o)) (numbered_none files all as_many f none)) ∙ runnable))
    | inr some ↦
        let ready = sym (runnable_as f some.0 some.1) ∙ runnable in
        (some.0, some.1, ready, on (file_of files f) refl some.0 (idle f some.0 some.1) ready)
  ]
    where
      runnable : is_runnable functions f ≡ true
      runnable = found_passes (is_runnable functions) (in_turn last (length functions)) f next

      on : (file : Option FileNo) → file_of files f ≡ file → (requests : Requests) → IsIdleIfOff (file_of files f) requests → is_ready_for requests ≡ true → (one : FileNo) × (file_of files f ≡ Some one)
      on None is requests idle ready = absurd (false≢true (sym (ap (λ queue. not (is_empty queue) && is_none requests.waiting) (nil_from_length requests.queue.requests (idle is))) ∙ ready))
      on (Some file) is requests idle ready = (file, is)
