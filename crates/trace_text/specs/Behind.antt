-- The lines behind that of what happened in a step.
use Rattle.std.specs.Prelude.{ℕ, ◌-◌, ◌==◌, if◌then◌else◌, List, [], ◌++◌, option_map}
use Rattle.std.specs.Int.{bit_at}
use Rattle.std.specs.List.{flat_map}
use Rattle.plain_machine.specs.Groups.{functions_in, path_told, reply_line_of}
use Rattle.plain_machine.specs.Lines.{commit_text, drop_text, path_text, reply_text}
use Rattle.plain_machine.specs.declared.outcome.Outcome.{Outcome}

-- the clock of a flush or a `sync`, and the reply
abbrev pub last_text : Outcome → List ℕ
last_text outcome = commit_text outcome.after ++ reply_text (option_map reply_line_of outcome.reply)

-- and before them the trees that were given up, and the path that was built
abbrev pub behind_text : Outcome → List ℕ
behind_text outcome = flat_map drop_text (functions_in outcome.drops)
    ++ path_text (path_told outcome.answer outcome.built) ++ last_text outcome

-- the line of the tree of a function, if its bit is set
abbrev pub drop_of : ℕ → ℕ → List ℕ
drop_of bits f = if bit_at bits (f - 1) == 1 then drop_text (record { 0 = f }) else []
