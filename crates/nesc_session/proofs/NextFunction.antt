-- The function of a session that is next, and what its first request is.
use Rattle.std.proofs.Common.{◌≡◌, ℕ, ◌+◌, ◌<◌, Bool, true, false, List, Option, None, Some, cond, length, option_map, slice_index_or, refl, sym, ap, subst, ◌∙◌}
use Rattle.std.proofs.lemmas.Bool.{false≢true}
use Rattle.std.proofs.lemmas.Option.{none-some, same_Some}
use Rattle.nesc_base.specs.declared.numbers.FileNo.{FileNo}
use Rattle.nesc_requests.specs.Script.{numbered}
use Rattle.nesc_requests.specs.declared.event.Event.TheVariants.{Tick}
use Rattle.hypervisor.specs.Attachments.{file_of}
use Rattle.plain_machine.specs.Functions.{next_runnable}
use Rattle.plain_machine.specs.Machine.{needed_by_tick, starts_with_write}
use Rattle.nesc_session.specs.Requests.{Requests, functions_of, is_ready_for, starts_with_flush}
use Rattle.nesc_session.specs.Resting.{IsIdleWhereOff, IsSession, functions_in}
use Rattle.nesc_session.specs.Stepping.{FlushesFirst, KeepsFor}
use Rattle.nesc_session.specs.declared.session.Session.{Session}
use Rattle.nesc_session.proofs.Items.{numbered_item}
use Rattle.nesc_session.proofs.SessionFunctions.{as_many, queue_in}
use Rattle.nesc_session.proofs.Turns.{next_ready}

-- at this index it is found, whatever files these functions have
abbrev pub SaysNext : List Requests → ℕ → Option ℕ → Type 0
SaysNext all last found =
    (files : List (Option FileNo)) → length files ≡ length all → IsIdleWhereOff files all → option_map (λ index. index + 1) found ≡ next_runnable (functions_of files all) last

module _ (session : Session) (is : IsSession session) where
  pub next_in : (all : List Requests) (found : Option ℕ) → all ≡ session.requests.items → SaysNext all session.last found
      → next_runnable (functions_in session) session.last ≡ option_map (λ index. index + 1) found
  next_in all found same says = sym (subst (λ these. SaysNext these session.last found) same says session.attachments (as_many session is) is.idle)

  -- at an index, and these are its requests
  pub next_at : (all : List Requests) (found : Option ℕ) (index : ℕ) (requests : Requests) → all ≡ session.requests.items → SaysNext all session.last found → found ≡ Some index → index < length all
      → requests ≡ slice_index_or session.requests.items index requests
      → (next_runnable (functions_in session) session.last ≡ Some (index + 1)) × (numbered session.requests.items (index + 1) ≡ Some requests)
  next_at all found index requests same says is_some within stands = (
    next_in all found same says ∙ ap (option_map (λ i. i + 1)) is_some,
    numbered_item session.requests.items (index + 1) index requests refl (subst (λ (these : List Requests). index < length these) same within) stands,
  )

  -- none is next
  module _ (none : next_runnable (functions_in session) session.last ≡ None) where
    pub keeps_none : KeepsFor session Tick → ⊥
    keeps_none keeps = none-some keeps.0 (sym none ∙ keeps.1)

    pub needs_none : needed_by_tick (functions_in session) (next_runnable (functions_in session) session.last) ≡ 0
    needs_none = ap (needed_by_tick (functions_in session)) none

  -- one is, with these requests
  module _ (f : ℕ) (requests : Requests) (next : next_runnable (functions_in session) session.last ≡ Some f) (at : numbered session.requests.items f ≡ Some requests) where
    -- it has a file, and does not wait
    pub next_ready_in : (is_ready_for requests ≡ true) × ((file : FileNo) × (file_of session.attachments f ≡ Some file))
    next_ready_in =
        let ready = next_ready session.attachments session.requests.items (as_many session is) is.idle session.last f next in
        (ap is_ready_for (same_Some requests ready.0 (sym at ∙ ready.1)) ∙ ready.2, ready.3)

    pub flushes_first : starts_with_flush requests.queue.requests ≡ true → FlushesFirst session f
    flushes_first flush others there = ap (λ (one : Requests). starts_with_flush one.queue.requests) (same_Some others requests (sym there ∙ at)) ∙ flush

    pub keeps_flush : starts_with_flush requests.queue.requests ≡ true → KeepsFor session Tick
    keeps_flush flush = (f, next, flushes_first flush)

    pub keeps_no_flush : starts_with_flush requests.queue.requests ≡ false → KeepsFor session Tick → ⊥
    keeps_no_flush flush keeps =
        let same : f ≡ keeps.0 = same_Some f keeps.0 (sym next ∙ keeps.1) in
        false≢true (sym flush ∙ keeps.2 requests (ap (numbered session.requests.items) (sym same) ∙ at))

    pub needs_next : (write : Bool) → starts_with_write requests.queue.requests ≡ write → needed_by_tick (functions_in session) (next_runnable (functions_in session) session.last) ≡ cond write 1 0
    needs_next write first =
        ap (needed_by_tick (functions_in session)) next
        ∙ ap (λ queue. cond {A = ℕ} (starts_with_write queue) 1 0) (queue_in session is f requests at)
        ∙ ap (λ b. cond {A = ℕ} b 1 0) first
