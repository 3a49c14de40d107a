use Rattle.std.proofs.Common.{◌≡◌, ◌+◌, ◌≤◌, length}
use Rattle.script_lang.specs.ScheduleText.{steps_from}
use Rattle.script_lang.specs.Words.{placed_words_from, placed_words_of}
use Rattle.script_lang.proofs.StepLemmas.{behind}
use Rattle.script_lang.proofs.schedule.all_steps.Given as goal

-- the steps so far and those of the text that is left are those of the whole text
abbrev pub invariant-loop-front : goal.invariant-loop-front
invariant-loop-front l = record {
  counted : 1 ≤ l.place.column;
  within : l.place.line + l.place.column + length l.left ≤ 2 + length l.fn.text;
  read : behind l.schedule (steps_from l.fn.functions (length l.schedule) (placed_words_from l.place l.left)) ≡ steps_from l.fn.functions 0 (placed_words_of l.fn.text);
}

abbrev pub decreases-loop-front : goal.decreases-loop-front
decreases-loop-front l = length l.left
