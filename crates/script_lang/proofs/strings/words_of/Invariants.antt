use Rattle.std.proofs.Common.{◌≡◌, ◌++◌, length, map}
use Rattle.script_lang.specs.Words.{words_of}
use Rattle.script_lang.proofs.strings.words_of.Given as goal

-- the words so far and those of the text that is left are those of the whole text
abbrev pub invariant-loop-word : goal.invariant-loop-word
invariant-loop-word l = map (λ word. word.now) l.words.items ++ words_of l.left ≡ words_of l.fn.text

abbrev pub decreases-loop-word : goal.decreases-loop-word
decreases-loop-word l = length l.left
