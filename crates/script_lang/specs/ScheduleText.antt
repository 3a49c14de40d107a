-- What a schedule says: its steps, or the first cause for which it is refused.
use Rattle.std.specs.Prelude.{ℕ, pos, ◌+◌, nat_le, if◌then◌else◌, List, []}
use Rattle.std.specs.Prelude.{◌∷◌, ◌++◌, replicate, ok_or, Result, Ok, Err}
use Rattle.nesc_requests.specs.declared.word.Word.{Word}
use Rattle.script_lang.specs.Limits.{most_steps, short_enough}
use Rattle.script_lang.specs.Reads.{◌>>=◌}
use Rattle.script_lang.specs.ScheduleWords.{steps_of}
use Rattle.script_lang.specs.Words.{PlacedWord, placed_words_of}
use Rattle.script_lang.specs.declared.fault.InputFault.{InputFault}
use Rattle.script_lang.specs.declared.fault.InputFault.TheVariants.{BadWord, OverLimit}
use Rattle.script_lang.specs.declared.fault.Limit.TheVariants.{Steps}

-- a word that none of a schedule is
abbrev pub bad_word : PlacedWord → InputFault
bad_word word = BadWord word.place.line word.place.column

-- so many steps, if there may be so many
abbrev pub few_steps : ℕ → Result ℕ InputFault
few_steps steps = if nat_le steps most_steps then Ok steps else Err (OverLimit Steps (pos steps))

-- the steps of these words, which come behind so many others
abbrev pub steps_from : ℕ → ℕ → List PlacedWord → Result (List Word) InputFault
steps_from functions before [] = Ok []
steps_from functions before (word ∷ words) = do
  taken ← ok_or (steps_of functions word.bytes) (bad_word word)
  steps ← few_steps (before + taken.1)
  more ← steps_from functions steps words
  Ok (replicate taken.1 taken.0 ++ more)

-- the steps of a schedule for a machine of so many functions, or why it is refused
unfoldable pub schedule_of : ℕ → List ℕ → Result (List Word) InputFault
schedule_of functions text = do
  text ← short_enough text
  steps_from functions 0 (placed_words_of text)
