-- What follows of bytes that a sink has taken one after another.
use Rattle.std.proofs.Common.{◌≡◌, ℕ, ◌+◌, ◌-◌, ◌≤◌, ◌++◌, List, length, take, drop, Option, Some, None, arith, append_assoc, length-append, ap, ◌∙◌, take-add}
use Rattle.std.proofs.lemmas.Grind.{common_steps}
use Rattle.std.proofs.lemmas.List.{take-append-drop, take-append-le}
use Rattle.std.proofs.Math.Seq.{take-append-add}
use Rattle.std.proofs.lemmas.Slice.{between_to_end}
use Rattle.nesc_base.specs.Sink.{Appends}
use Rattle.text_kit.specs.Known.{AppendsPrefix, Keeps, followed_by}

-- two texts that came one behind the other came as one
pub Appends-append : (old mid new : Option (List ℕ)) (xs ys : List ℕ) → Appends old mid xs → Appends mid new ys → Appends old new (xs ++ ys)
Appends-append None mid new xs ys first then = tt
Appends-append (Some old) None new xs ys first then = absurd (cc)
Appends-append (Some old) (Some mid) new xs ys first then = grind (arith, common_steps)

-- behind the first n bytes of a text came the first m of what stands from there to its end
pub Appends-more : (old mid new : Option (List ℕ)) (n m end : ℕ) (text : List ℕ) → length text ≤ end → Appends old mid (take n text) → Appends mid new (take m (take (end - n) (drop n text))) → Appends old new (take (n + m) text)
Appends-more old mid new n m end text within first then =
    let rest : take (end - n) (drop n text) ≡ drop n text = between_to_end text n end within in
    rw take-add (Appends-append old mid new (take n text) (take m (drop n text)) first (rw rest at then))

-- the first n bytes came, so some of them did
pub AppendsPrefix-take : (old new : Option (List ℕ)) (n : ℕ) (text : List ℕ) → n ≤ length text → Appends old new (take n text) → AppendsPrefix old new text
AppendsPrefix-take None new n text within came = tt
AppendsPrefix-take (Some old) new n text within came = (n, within, came)

-- what was pending and is handed on stands where it stood
pub Keeps-handed : (known new : Option (List ℕ)) (n : ℕ) (pending : List ℕ) → Appends known new (take n pending) → Keeps (followed_by known pending) (followed_by new (drop n pending))
Keeps-handed None new n pending came = tt
Keeps-handed (Some old) None n pending came = absurd (cc)
Keeps-handed (Some old) (Some mid) n pending came = grind (arith, common_steps, take-append-drop)

-- what is gathered comes behind what is shown
pub Appends-pending : (old known : Option (List ℕ)) (pending more : List ℕ) → Keeps old (followed_by known pending) → Appends old (followed_by known (pending ++ more)) more
Appends-pending None known pending more kept = tt
Appends-pending (Some old) None pending more kept = absurd (cc)
Appends-pending (Some old) (Some known) pending more kept = grind (arith, common_steps)

-- the first bytes of a text are the first of a longer one
pub AppendsPrefix-left : (old new : Option (List ℕ)) (xs ys : List ℕ) → AppendsPrefix old new xs → AppendsPrefix old new (xs ++ ys)
AppendsPrefix-left None new xs ys came = tt
AppendsPrefix-left (Some old) new xs ys came =
    let within : came.0 ≤ length xs = came.1 in
    (came.0, omega (arith, length-append xs ys), rw take-append-le came.2)

-- behind a whole text came the first bytes of another
pub AppendsPrefix-right : (old mid new : Option (List ℕ)) (xs ys : List ℕ) → Appends old mid xs → AppendsPrefix mid new ys → AppendsPrefix old new (xs ++ ys)
AppendsPrefix-right None mid new xs ys whole came = tt
AppendsPrefix-right (Some old) None new xs ys whole came = absurd (cc)
AppendsPrefix-right (Some old) (Some mid) new xs ys whole came = (
  length xs + came.0,
  omega (arith, came.1, length-append xs ys),
  rw take-append-add (let begun : mid ≡ old ++ xs = cc in came.2 ∙ ap Some (ap (λ bytes. bytes ++ take came.0 ys) begun ∙ append_assoc old xs (take came.0 ys))),
)
