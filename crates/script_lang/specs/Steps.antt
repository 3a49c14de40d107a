-- How the steps of a schedule are kept: each word with the number of times that it comes.
use Rattle.std.specs.Prelude.{◌≡◌, ℕ, ◌≤◌, List, length, replicate}
use Rattle.std.specs.List.{All, flat_map}
use Rattle.nesc_requests.specs.declared.word.Word.{Word}
use Rattle.script_lang.specs.declared.schedule.Repeated.{Repeated}

abbrev pub words_in : Repeated → List Word
words_in repeated = replicate repeated.times repeated.word

abbrev pub steps_in : List Repeated → List Word
steps_in runs = flat_map words_in runs

-- each word comes, and so many steps are left
pub record AreSteps (runs : List Repeated) (steps : ℕ) : Type 0 where
  pub some : All (λ repeated. 1 ≤ repeated.times) runs
  pub count : steps ≡ length (steps_in runs)
