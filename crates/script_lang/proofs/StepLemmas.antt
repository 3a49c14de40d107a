-- The steps of a schedule, word after word.
use Rattle.std.proofs.Common.{◌≡◌, ℕ, ◌+◌, List, [], ◌∷◌, ◌++◌, length, replicate, Some, None, Result, Ok, Err, refl, ap, sym}
use Rattle.std.proofs.lemmas.List.{append-nil}
use mathlib.Core.List.{append_assoc}
use Rattle.nesc_requests.specs.declared.word.Word.{Word}
use Rattle.script_lang.specs.Reads.{◌>>=◌}
use Rattle.script_lang.specs.ScheduleText.{bad_word, few_steps, steps_from}
use Rattle.script_lang.specs.ScheduleWords.{steps_of}
use Rattle.script_lang.specs.Words.{PlacedWord}
use Rattle.script_lang.specs.declared.fault.InputFault.{InputFault}

-- what is done, and then what comes behind it
abbrev pub behind : {A : Type 0} → List A → Result (List A) InputFault → Result (List A) InputFault
behind done rest = rest >>= λ more. Ok (done ++ more)

pub behind-append : {A : Type 0} (done more : List A) (rest : Result (List A) InputFault) → behind done (rest >>= λ last. Ok (more ++ last)) ≡ behind (done ++ more) rest
behind-append done more (Ok last) = ap Ok (sym (append_assoc done more last))
behind-append done more (Err fault) = refl

-- the steps of one word more are done
pub steps-more : (functions steps : ℕ) (word : PlacedWord) (words : List PlacedWord) (taken : Word × ℕ) (done : List Word) → steps_of functions word.bytes ≡ Some taken → few_steps (length done + taken.1) ≡ Ok steps
    → behind done (steps_from functions (length done) (word ∷ words)) ≡ behind (done ++ replicate taken.1 taken.0) (steps_from functions steps words)
steps-more functions steps word words taken done said few = rw (said, few) (behind-append done (replicate taken.1 taken.0) (steps_from functions steps words))

-- or the word is refused, or there are too many steps with it
pub steps-bad : (functions : ℕ) (word : PlacedWord) (words : List PlacedWord) (done : List Word) → steps_of functions word.bytes ≡ None → behind done (steps_from functions (length done) (word ∷ words)) ≡ Err (bad_word word)
steps-bad functions word words done said = rw said

pub steps-over : (functions : ℕ) (word : PlacedWord) (words : List PlacedWord) (taken : Word × ℕ) (done : List Word) (fault : InputFault) → steps_of functions word.bytes ≡ Some taken → few_steps (length done + taken.1) ≡ Err fault
    → behind done (steps_from functions (length done) (word ∷ words)) ≡ Err fault
steps-over functions word words taken done fault said many = rw (said, many)

-- no word is left
pub steps-end : (functions steps : ℕ) (done : List Word) → behind done (steps_from functions steps []) ≡ Ok done
steps-end functions steps done = ap Ok (append-nil done)
