-- The words of a schedule: the step that each stands for, and how often it is taken.
use Rattle.std.specs.Prelude.{ℕ, ◌+◌, ◌==◌, if◌then◌else◌, Bool, true, false}
use Rattle.std.specs.Prelude.{List, take, drop, codes, Option, Some, None}
use Rattle.std.specs.List.{position}
use Rattle.std.specs.Str.{bytes_eq}
use Rattle.nesc_requests.specs.declared.word.Word.{Word}
use Rattle.nesc_requests.specs.declared.word.Word.TheVariants.{T, G, H, I, P, PAt, E, X}
use Rattle.script_lang.specs.Numbers.{block_number_of, function_of, times_of}
use Rattle.script_lang.specs.Words.{◌>>=◌}

-- N of t*N, so many ticks
abbrev pub ticks_of : List ℕ → Option (Word × ℕ)
ticks_of text = times_of text >>= λ n. Some (T, n)

abbrev pub is_colon : ℕ → Bool
is_colon b = b == 58

-- N of pN, where there is no colon, or N:V of pN:V, cut at the first one
abbrev pub prune_at : ℕ → List ℕ → Option ℕ → Option Word
prune_at functions text None = function_of functions text >>= λ f. Some (P f)
prune_at functions text (Some colon) = do
  f ← function_of functions (take colon text)
  v ← block_number_of (drop (colon + 1) text)
  Some (PAt f v)

abbrev pub prune_of : ℕ → List ℕ → Option Word
prune_of functions text = prune_at functions text (position is_colon text)

-- the word that takes one step on a machine of so many functions, if these bytes are one
abbrev pub single_of : ℕ → List ℕ → Option Word
single_of functions bytes =
    if bytes_eq bytes (codes "t") then Some T
    else if bytes_eq bytes (codes "h") then Some H
    else if bytes_eq bytes (codes "e") then Some E
    else if bytes_eq bytes (codes "x") then Some X
    else if bytes_eq (take 1 bytes) (codes "g") then (function_of functions (drop 1 bytes) >>= λ f. Some (G f))
    else if bytes_eq (take 1 bytes) (codes "i") then (function_of functions (drop 1 bytes) >>= λ f. Some (I f))
    else if bytes_eq (take 1 bytes) (codes "p") then prune_of functions (drop 1 bytes)
    else None

-- the step that a word stands for, and how often it is taken
abbrev pub word_said : ℕ → List ℕ → Option (Word × ℕ)
word_said functions bytes =
    if bytes_eq (take 2 bytes) (codes "t*") then ticks_of (drop 2 bytes)
    else (single_of functions bytes >>= λ word. Some (word, 1))

-- There are no trees yet, so no word that prunes one or empties the cache of translations is served.
abbrev pub is_served : Word → Bool
is_served (P f) = false
is_served (PAt f v) = false
is_served E = false
is_served word = true

abbrev pub if_served : Word × ℕ → Option (Word × ℕ)
if_served taken = if is_served taken.0 then Some taken else None

-- the step that a word stands for, and how often it is taken, if the word is served
abbrev pub steps_of : ℕ → List ℕ → Option (Word × ℕ)
steps_of functions bytes = word_said functions bytes >>= if_served
