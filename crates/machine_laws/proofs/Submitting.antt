-- What comes of a request that is handed in.
use Rattle.std.proofs.Common.{◌≡◌, ℕ, ltb-false, ltb-true, le-ltb, lt-ltb, nat_lt, if◌then◌else◌, length, Option, Some, None, refl, sym, ap, ◌∙◌}
use Rattle.std.proofs.lemmas.Bool.{cond_both, cond-false, cond-true}
use Rattle.nesc_requests.specs.declared.request.Request.{Request}
use Rattle.plain_machine.specs.Functions.{Attached, Function}
use Rattle.plain_machine.specs.Given.{leaf_of, walked, way_of}
use Rattle.plain_machine.specs.Submissions.{Submits, queueing}
use Rattle.plain_machine.specs.declared.outcome.Answer.{Answer}
use Rattle.plain_machine.specs.declared.outcome.Answer.TheVariants as answer

module _ (most : ℕ) (old : Function) (request : Request) where
  -- the answer, and the function after it, where the function has this, if it has something
  abbrev pub submitted_to : Option Attached → Answer × Function
  submitted_to None = (answer.Off request, old)
  submitted_to (Some attached) =
      if nat_lt (length attached.queue) most then (answer.Queued old.next, queueing old attached request)
      else (answer.Full request, old)

  abbrev pub submitted : Answer × Function
  submitted = submitted_to old.attached

  -- nothing else comes of it
  pub submitted_one : (came : Answer) (new : Function) → Submits most old request came new → (came, new) ≡ submitted
  submitted_one (answer.Off back) new submits = (λ i. (answer.Off (submits.1 i), submits.2 i)) ∙ sym (ap submitted_to submits.0)
  submitted_one (answer.Full back) new submits =
      (λ i. (answer.Full (submits.1 i), submits.2 i))
      ∙ sym (ap submitted_to submits.0.on ∙ cond-false _ _ _ (le-ltb _ _ submits.0.full))
  submitted_one (answer.Queued id) new submits =
      (λ i. (answer.Queued (submits.id_is i), submits.result i))
      ∙ sym (ap submitted_to submits.on ∙ cond-true _ _ _ (lt-ltb _ _ submits.room))
  submitted_one other new submits = absurd submits

  submits_to : (has : Option Attached) → old.attached ≡ has → Submits most old request (submitted_to has).0 (submitted_to has).1
  submits_to None off = (off, refl, refl)
  submits_to (Some attached) on =
      cond_both (nat_lt (length attached.queue) most) _ _ (λ (came : Answer × Function). Submits most old request came.0 came.1)
      (λ room. record { attached = attached; on = on; room = ltb-true _ _ room; id_is = refl; result = refl })
      (λ full. (record { attached = attached; on = on; full = ltb-false _ _ full }, refl, refl))

  -- and this does
  pub submitted_submits : Submits most old request submitted.0 submitted.1
  submitted_submits = submits_to old.attached refl

  looks_for_none_to : (has : Option Attached) → (way_of (submitted_to has).0 ≡ walked 0) × (leaf_of (submitted_to has).0 ≡ None)
  looks_for_none_to None = (refl, refl)
  looks_for_none_to (Some attached) =
      cond_both (nat_lt (length attached.queue) most) _ _ (λ (came : Answer × Function). (way_of came.0 ≡ walked 0) × (leaf_of came.0 ≡ None))
      (λ _. (refl, refl)) (λ _. (refl, refl))

  -- and nothing is looked for
  pub submitted_looks_for_none : (way_of submitted.0 ≡ walked 0) × (leaf_of submitted.0 ≡ None)
  submitted_looks_for_none = looks_for_none_to old.attached
