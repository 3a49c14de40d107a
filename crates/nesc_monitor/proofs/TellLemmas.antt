-- What a sink has taken behind one that gathers.
use Rattle.std.proofs.Common.{◌≡◌, ℕ, ◌≤◌, List, [], ◌++◌, length, take, Option, Some, None, refl, sym, ap, ◌∙◌, subst, arith, append-nil, append_assoc, length-append}
use Rattle.std.proofs.lemmas.List.{append_cancel_left, length-take, take-take}
use Rattle.std.proofs.Math.Seq.{take-append_seam, take-length}
use Rattle.nesc_base.specs.Sink.{Appends, Grows}
use Rattle.text_kit.specs.Known.{AppendsPrefix, Keeps, followed_by}
use Rattle.nesc_monitor.specs.Steps.{HandsOn}

-- Where nothing is pending

pub shown_handed : (known : Option (List ℕ)) (pending : List ℕ) → pending ≡ [] → followed_by known pending ≡ known
shown_handed None pending empty = refl
shown_handed (Some bytes) pending empty = ap Some (ap (λ more. bytes ++ more) empty ∙ append-nil bytes)

-- what is shown stayed, and nothing of it is pending any more
pub handed_on : (old mid : Option (List ℕ)) (pending : List ℕ) → pending ≡ [] → Keeps old (followed_by mid pending) → Keeps old mid
handed_on old mid pending empty kept = subst (Keeps old) (shown_handed mid pending empty) kept

-- What came

pub appends_nothing : (known : Option (List ℕ)) → Appends known known []
appends_nothing None = tt
appends_nothing (Some bytes) = ap Some (sym (append-nil bytes))

pub keeps_appends : (old mid new : Option (List ℕ)) (text : List ℕ) → Keeps old mid → Appends mid new text → Appends old new text
keeps_appends None mid new text kept came = tt
keeps_appends (Some old) None new text kept came = absurd (cc)
keeps_appends (Some old) (Some mid) new text kept came = let same : mid ≡ old = cc in came ∙ ap (λ bytes. Some (bytes ++ text)) same

pub keeps_prefix : (old mid new : Option (List ℕ)) (text : List ℕ) → Keeps old mid → AppendsPrefix mid new text → AppendsPrefix old new text
keeps_prefix None mid new text kept came = tt
keeps_prefix (Some old) None new text kept came = absurd (cc)
keeps_prefix (Some old) (Some mid) new text kept came = let same : mid ≡ old = cc in (came.0, came.1, came.2 ∙ ap (λ bytes. Some (bytes ++ take came.0 text)) same)

pub keeps_grows : (old mid new : Option (List ℕ)) → Keeps old mid → Grows mid new → Grows old new
keeps_grows None mid new kept grew = tt
keeps_grows (Some old) None new kept grew = absurd (cc)
keeps_grows (Some old) (Some mid) new kept grew = let same : mid ≡ old = cc in (grew.0, grew.1 ∙ ap (λ bytes. Some (bytes ++ grew.0)) same)

pub appends_keeps : (old mid new : Option (List ℕ)) (text : List ℕ) → Appends old mid text → Keeps mid new → Appends old new text
appends_keeps None mid new text came kept = tt
appends_keeps (Some old) None new text came kept = absurd (cc)
appends_keeps (Some old) (Some mid) new text came kept = kept ∙ came

-- What was handed on

-- a text that came is handed on where all is that came
pub appends_hands : (old mid new : Option (List ℕ)) (text : List ℕ) → Appends old mid text → Grows mid new → HandsOn old new text
appends_hands None mid new text came grew = tt
appends_hands (Some old) None new text came grew = absurd (cc)
appends_hands (Some old) (Some mid) new text came grew =
    let same : mid ≡ old ++ text = cc in (grew.0, grew.1 ∙ ap Some (ap (λ bytes. bytes ++ grew.0) same))

-- and stays so
pub hands_on : (old mid new : Option (List ℕ)) (text : List ℕ) → HandsOn old mid text → Grows mid new → HandsOn old new text
hands_on None mid new text handed grew = tt
hands_on (Some old) None new text handed grew = absurd (let h = handed.1 in cc)
hands_on (Some old) (Some mid) new text handed grew =
    let same : mid ≡ old ++ text ++ handed.0 = let h = handed.1 in cc in
    (handed.0 ++ grew.0, grew.1 ∙ ap Some (ap (λ bytes. bytes ++ grew.0) same ∙ append_assoc (old ++ text) handed.0 grew.0))

pub hands_nothing : (known : Option (List ℕ)) → HandsOn known known []
hands_nothing None = tt
hands_nothing (Some bytes) = ([], ap Some (sym (append-nil (bytes ++ []) ∙ append-nil bytes)))

-- What only grew

pub grows_itself : (known : Option (List ℕ)) → Grows known known
grows_itself None = tt
grows_itself (Some bytes) = ([], ap Some (sym (append-nil bytes)))

pub hands_grows : (old new : Option (List ℕ)) (text : List ℕ) → HandsOn old new text → Grows old new
hands_grows None new text handed = tt
hands_grows (Some old) new text handed = (text ++ handed.0, handed.1 ∙ ap Some (append_assoc old text handed.0))

-- The front of a text

-- all of it is one
pub appends_prefix : (old new : Option (List ℕ)) (text : List ℕ) → Appends old new text → AppendsPrefix old new text
appends_prefix None new text came = tt
appends_prefix (Some old) new text came = (length text, omega arith, came ∙ ap (λ bytes. Some (old ++ bytes)) (sym (take-length text)))

-- the front of what was gathered went on
went_on : (old new more pending text : List ℕ) → new ≡ old ++ more → new ++ pending ≡ old ++ text → (n : ℕ) × (n ≤ length text) × (new ≡ old ++ take n text)
went_on old new more pending text grew gathered =
    let same : more ++ pending ≡ text = append_cancel_left old (more ++ pending) text (sym (append_assoc old more pending) ∙ ap (λ bytes. bytes ++ pending) (sym grew) ∙ gathered) in
    let front : take (length more) text ≡ more = ap (take (length more)) (sym same) ∙ take-append_seam more pending in
    (length more, omega (arith, ap length same, length-append more pending), grew ∙ ap (λ bytes. old ++ bytes) (sym front))

-- the front of the text was gathered, and a front of that went on
pub prefix_handed : (old new : Option (List ℕ)) (pending text : List ℕ) → AppendsPrefix old (followed_by new pending) text → Grows old new → AppendsPrefix old new text
prefix_handed None new pending text came grew = tt
prefix_handed (Some old) None pending text came grew = absurd (let h = came.2 in cc)
prefix_handed (Some old) (Some new) pending text came grew =
    let grown : new ≡ old ++ grew.0 = let h = grew.1 in cc in
    let gathered : new ++ pending ≡ old ++ take came.0 text = let h = came.2 in cc in
    let found = went_on old new grew.0 pending (take came.0 text) grown gathered in
    let within : found.0 ≤ came.0 = omega (arith, found.1, length-take came.0 text) in
    (found.0, omega (arith, came.1, within), ap Some (found.2 ∙ ap (λ bytes. old ++ bytes) (take-take found.0 came.0 text within)))
