-- How large the texts may be.
use Rattle.std.specs.Prelude.{ℕ, pos, ◌+◌, nat_le, if◌then◌else◌, List, length, Result, Ok, Err}
use Rattle.script_lang.specs.declared.fault.InputFault.{InputFault}
use Rattle.script_lang.specs.declared.fault.InputFault.TheVariants.{OverLimit}
use Rattle.script_lang.specs.declared.fault.Limit.TheVariants.{Text}

-- how many bytes a text may have
abbrev pub most_bytes : ℕ
most_bytes = 16777216

-- how many steps a schedule may have
abbrev pub most_steps : ℕ
most_steps = 1048576

-- how many blocks the commands and requests of a text may have, all together
abbrev pub most_blocks : ℕ
most_blocks = 262144

-- the text, if it is not too long
abbrev pub short_enough : List ℕ → Result (List ℕ) InputFault
short_enough text = if nat_le (length text) most_bytes then Ok text else Err (OverLimit Text (pos (most_bytes + 1)))
