-- What is said of a text that is refused.
use Rattle.std.specs.Prelude.{ℕ, ℤ, ◌++◌, zero, suc, List, [], if◌then◌else◌, codes, unsigned_abs}
use Rattle.std.specs.Fmt.{decimal}
use Rattle.std.specs.Int.{is_negative}
use Rattle.script_lang.specs.declared.fault.InputFault.{InputFault}
use Rattle.script_lang.specs.declared.fault.InputFault.TheVariants.{NoMemory, BadToml, BadKey, BadCommand}
use Rattle.script_lang.specs.declared.fault.InputFault.TheVariants.{BadWord, OverLimit, BadName}
use Rattle.script_lang.specs.declared.fault.Limit.{Limit}
use Rattle.script_lang.specs.declared.fault.Limit.TheVariants.{Text, Functions, Queue, Pool}
use Rattle.script_lang.specs.declared.fault.Limit.TheVariants.{Btlb, Guests, Blocks, Steps}

abbrev pub limit_text : Limit → List ℕ
limit_text Text = codes "text"
limit_text Functions = codes "functions"
limit_text Queue = codes "queue"
limit_text Pool = codes "pool"
limit_text Btlb = codes "btlb"
limit_text Guests = codes "guests"
limit_text Blocks = codes "blocks"
limit_text Steps = codes "steps"

-- a whole number, with a sign where it is below 0
abbrev pub whole_text : ℤ → List ℕ
whole_text n = (if is_negative n then codes "-" else []) ++ decimal (unsigned_abs n)

-- the host, or the guest of a function
abbrev pub actor_text : ℕ → List ℕ
actor_text zero = codes "h"
actor_text (suc n) = codes "g" ++ decimal (suc n)

-- what is wrong, and where
abbrev pub cause_text : InputFault → List ℕ
cause_text BadToml = codes "toml"
cause_text (BadKey table place) = codes "key " ++ decimal table ++ codes " " ++ decimal place
cause_text (BadCommand actor index) = actor_text actor ++ codes " " ++ decimal index
cause_text (BadWord line column) = codes "word " ++ decimal line ++ codes " " ++ decimal column
cause_text (OverLimit limit count) = codes "limit " ++ limit_text limit ++ codes " " ++ whole_text count
cause_text BadName = codes "name"
cause_text NoMemory = codes "memory"

-- of which text
abbrev pub input_line : List ℕ → InputFault → List ℕ
input_line text fault = codes "nesc: input " ++ text ++ codes " " ++ cause_text fault ++ codes "\n"
