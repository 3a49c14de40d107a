-- The functions of a session, by their files and requests.
use Rattle.std.proofs.Common.{◌≡◌, ℕ, ◌+◌, ◌<◌, List, [], Option, None, Some, length, slice_index_or, inl, inr, sym, ap, subst, ◌∙◌}
use Rattle.std.specs.Prelude.{slice_set, unwrap_or}
use Rattle.std.specs.Option.{option_and_then, option_map_or}
use Rattle.nesc_base.specs.declared.numbers.FileNo.{FileNo}
use Rattle.nesc_requests.specs.Script.{numbered}
use Rattle.hypervisor.specs.Attachments.{file_of}
use Rattle.plain_machine.specs.Functions.{Attached, Becomes, Function, attached_of, function_at, off, queue_of}
use Rattle.nesc_session.specs.Requests.{Requests, function_of, functions_of}
use Rattle.nesc_session.specs.Resting.{IsSession, functions_in}
use Rattle.nesc_session.specs.declared.session.Session.{Session}
use Rattle.nesc_session.proofs.Idle.{queue_as}
use Rattle.nesc_session.proofs.Items.{numbered_cases, numbered_item, with_item}
use Rattle.nesc_session.proofs.MadeFunctions.{attached_of_functions, function_at_functions, function_becomes, numbered_none}

module _ (session : Session) (is : IsSession session) where
  pub as_many : length session.attachments ≡ length session.requests.items
  as_many = is.attachments ∙ sym is.functions

  module _ (f : ℕ) where
    -- one with requests
    module _ (requests : Requests) (at : numbered session.requests.items f ≡ Some requests) where
      pub function_in : function_at (functions_in session) f ≡ function_of (file_of session.attachments f) requests
      function_in = function_at_functions session.attachments session.requests.items as_many f requests at

      pub queue_in : queue_of (function_at (functions_in session) f) ≡ requests.queue.requests
      queue_in = ap queue_of function_in ∙ queue_as (file_of session.attachments f) requests (is.idle f requests at)

      -- and a file
      module _ (file : FileNo) (on : file_of session.attachments f ≡ Some file) where
        pub function_on : function_at (functions_in session) f ≡ function_of (Some file) requests
        function_on = function_in ∙ ap (λ o. function_of o requests) on

        pub attached_on : attached_of (functions_in session) f ≡ (function_of (Some file) requests).attached
        attached_on = attached_of_functions session.attachments session.requests.items as_many f requests at ∙ ap (λ o. (function_of o requests).attached) on

    -- whose requests change
    pub becomes_in : (index : ℕ) (old new : Requests) (file : FileNo) → f ≡ index + 1 → index < length session.requests.items → old ≡ slice_index_or session.requests.items index old → file_of session.attachments f ≡ Some file
        → (way : Function → Function → Type 0) → way (function_of (Some file) old) (function_of (Some file) new)
        → Becomes way f (functions_in session) (functions_of session.attachments (slice_set session.requests.items index new))
    becomes_in index old new file number within stands on way becomes =
        subst (λ (all : List Requests). Becomes way f (functions_in session) (functions_of session.attachments all)) (sym (with_item session.requests.items f index new number))
        (function_becomes session.attachments session.requests.items as_many f way old new (numbered_item session.requests.items f index old number within stands)
        (subst (λ (o : Option FileNo). way (function_of o old) (function_of o new)) (sym on) becomes))

    -- one without a file, or none
    module _ (no_file : file_of session.attachments f ≡ None) where
      pub attached_off : attached_of (functions_in session) f ≡ None
      attached_off = elim (numbered_cases session.requests.items f) [
        | inl none ↦ ap (option_and_then (λ (function : Function). function.attached)) (numbered_none session.attachments session.requests.items as_many f none)
        | inr some ↦ attached_of_functions session.attachments session.requests.items as_many f some.0 some.1 ∙ ap (λ o. (function_of o some.0).attached) no_file
      ]

      pub function_off : (function_at (functions_in session) f).attached ≡ None
      function_off = elim (numbered_cases session.requests.items f) [
        | inl none ↦ ap (λ o. (unwrap_or o off).attached) (numbered_none session.attachments session.requests.items as_many f none)
        | inr some ↦ ap (λ (function : Function). function.attached) (function_in some.0 some.1) ∙ ap (λ o. (function_of o some.0).attached) no_file
      ]

      pub queue_off : queue_of (function_at (functions_in session) f) ≡ []
      queue_off = ap (λ o. option_map_or (λ (attached : Attached). attached.queue) o []) function_off
