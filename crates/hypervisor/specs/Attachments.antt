-- Which file each function has.
use Rattle.std.specs.Prelude.{◌≡◌, ℕ, ◌+◌, ◌<◌, ◌≤◌, Bool, false, if◌then◌else◌, List, map}
use Rattle.std.specs.Prelude.{length, Option, Some, None, option_map, is_none, unwrap_or}
use Rattle.std.specs.Option.{option_map_or}
use Rattle.std.specs.Int.{bit_at}
use Rattle.nesc_base.specs.declared.numbers.FileNo.{FileNo}
use Rattle.nesc_requests.specs.Machine.{most_functions}
use Rattle.nesc_requests.specs.Script.{numbered}
use Rattle.plain_machine.specs.Functions.{Function, function_at, is_empty, queue_of}

-- the file of each function, numbered from 1, or none where it is off
abbrev pub Attachments : Type 0
Attachments = List (Option FileNo)

-- the file of the function of a number
abbrev pub file_of : Attachments → ℕ → Option FileNo
file_of attachments f = unwrap_or (numbered attachments f) None

-- there are as few functions as there may be, and no two of them have one file
pub record AreAttachments (attachments : Attachments) : Type 0 where
  pub few : length attachments ≤ most_functions
  pub apart : (f g : ℕ) (file : FileNo) → file_of attachments f ≡ Some file → file_of attachments g ≡ Some file → f ≡ g

-- the files of functions of the machine
abbrev pub file_numbers : List Function → Attachments
file_numbers = map (λ function. option_map (λ attached. record { 0 = attached.file }) function.attached)

-- a bit is set for just those functions for which requests wait, the lowest for the first
abbrev pub AreQueued : ℕ → List Function → Type 0
AreQueued bits functions = (k : ℕ) → k < length functions
    → bit_at bits k ≡ (if is_empty (queue_of (function_at functions (k + 1))) then 0 else 1)

-- the functions have these files, and for these of them requests wait
pub record AreFunctions (attachments : Attachments) (queued : ℕ) (functions : List Function) : Type 0 where
  pub files : file_numbers functions ≡ attachments
  pub queues : AreQueued queued functions

-- there is a function of this number, and it has no file
abbrev pub is_off_in : Attachments → ℕ → Bool
is_off_in attachments f = option_map_or is_none (numbered attachments f) false
