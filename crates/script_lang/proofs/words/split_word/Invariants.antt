use Rattle.std.proofs.Common.{◌≡◌, ℕ, ◌<◌, get_or, false}
use Rattle.script_lang.specs.Words.{separates}
use Rattle.script_lang.proofs.words.split_word.Given as goal

-- no byte so far ends the word
abbrev pub invariant-loop-i : goal.invariant-loop-i
invariant-loop-i l = (k : ℕ) → k < l.i → separates l.separators (get_or l.text k 0) ≡ false
