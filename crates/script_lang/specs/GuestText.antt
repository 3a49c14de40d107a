-- The requests of the guests as texts.
use Rattle.std.specs.Prelude.{ℕ, if◌then◌else◌, List, [], ◌∷◌, codes, Option, Some, None}
use Rattle.std.specs.Str.{bytes_eq}
use Rattle.nesc_requests.specs.declared.request.Request.{Request}
use Rattle.nesc_requests.specs.declared.request.Request.TheVariants.{Read, Write, Flush}
use Rattle.script_lang.specs.Runs.{asked_run_of, buffer_for, written_run_of}
use Rattle.script_lang.specs.Words.{is_trimmed, words_of, ◌>>=◌}

-- r V N
abbrev pub read_of : List (List ℕ) → Option Request
read_of words = asked_run_of words >>= λ run. Some (Read run.0 (buffer_for run.1))

-- w V BLOCK..
abbrev pub write_of : List (List ℕ) → Option Request
write_of words = written_run_of words >>= λ run. Some (Write run.0 run.1)

-- f
abbrev pub flush_of : List (List ℕ) → Option Request
flush_of [] = Some Flush
flush_of words = None

-- the request of this first word and those behind it, if it writes no blocks
abbrev pub unwritten_of : List ℕ → List (List ℕ) → Option Request
unwritten_of first words =
    if bytes_eq first (codes "r") then read_of words
    else if bytes_eq first (codes "f") then flush_of words
    else None

-- the request of these words
abbrev pub request_of_words : List (List ℕ) → Option Request
request_of_words [] = None
request_of_words (first ∷ words) =
    if bytes_eq first (codes "w") then write_of words
    else unwritten_of first words

-- the request that a string is, if it is one
abbrev pub request_of : List ℕ → Option Request
request_of text = if is_trimmed text then request_of_words (words_of text) else None
