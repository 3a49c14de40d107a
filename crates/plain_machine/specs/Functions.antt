-- What a function, the device of one guest, is at a moment, and which function is served next.
use Rattle.std.specs.Prelude.{◌≡◌, ℕ, ◌+◌, ◌-◌, ◌*◌, not, ◌&&◌, ◌==◌, if◌then◌else◌, Bool, true, false}
use Rattle.std.specs.Prelude.{List, [], ◌∷◌, ◌++◌, length, Option, Some, None, is_none, is_some, unwrap_or}
use Rattle.std.specs.List.{AllByRecursion, find, list_any, range_with_len}
use Rattle.std.specs.Option.{option_and_then, option_map_or}
use Rattle.nesc_requests.specs.Script.{numbered, with_numbered}
use Rattle.nesc_requests.specs.declared.request.Miss.{Miss}
use Rattle.nesc_requests.specs.declared.request.Queued.{Queued}

-- a function that has a file: the file's number, the requests that wait, how many blocks of the first of them are
-- done, and what the function is waiting for, if it is
pub record Attached : Type 0 where
  pub file : ℕ
  pub queue : List Queued
  pub done : ℕ
  pub waiting : Option Miss

-- a function: what it has, if it is not off, and the number that its next request gets
pub record Function : Type 0 where
  pub attached : Option Attached
  pub next : ℕ

-- a function at first
abbrev pub off : Function
off = record { attached = None; next = 1 }

-- a function that was given a file
abbrev pub fresh : ℕ → Attached
fresh file = record { file = file; queue = []; done = 0; waiting = None }

-- Functions, numbered from 1

-- the function of a number; where there is none, one that is off
abbrev pub function_at : List Function → ℕ → Function
function_at functions f = unwrap_or (numbered functions f) off

-- the function of a number becomes another in this way, and the others stay
pub record Becomes (way : Function → Function → Type 0) (f : ℕ) (old new : List Function) : Type 0 where
  pub after : Function
  pub becomes : way (function_at old f) after
  pub others : new ≡ with_numbered old f after

-- what the function of a number has
abbrev pub attached_of : List Function → ℕ → Option Attached
attached_of functions f = option_and_then (λ function. function.attached) (numbered functions f)

-- the number of its file; 0, which no file has, where it has none
abbrev pub file_number : Function → ℕ
file_number function = option_map_or (λ attached. attached.file) function.attached 0

-- what a function is waiting for, and the requests that wait for it
abbrev pub waiting_of : Function → Option Miss
waiting_of function = option_and_then (λ attached. attached.waiting) function.attached

abbrev pub queue_of : Function → List Queued
queue_of function = option_map_or (λ attached. attached.queue) function.attached []

-- there is a function of this number, and it has no file
abbrev pub is_off : List Function → ℕ → Bool
is_off functions f = option_map_or (λ function. is_none function.attached) (numbered functions f) false

-- the function has this file
abbrev pub has_file : ℕ → Option Attached → Bool
has_file n None = false
has_file n (Some attached) = attached.file == n

-- one of the functions has this file
abbrev pub is_taken : List Function → ℕ → Bool
is_taken functions n = list_any (λ function. has_file n function.attached) functions

-- which of the functions wait, by a bit for each, the lowest for the first
abbrev pub pending : List Function → ℕ
pending [] = 0
pending (function ∷ functions) = (if is_some (waiting_of function) then 1 else 0) + 2 * pending functions

-- Turns

abbrev pub is_empty : {A : Type 0} → List A → Bool
is_empty [] = true
is_empty (x ∷ xs) = false

-- it has a request, and is not waiting
abbrev pub is_ready : Option Attached → Bool
is_ready None = false
is_ready (Some attached) = not (is_empty attached.queue) && is_none attached.waiting

abbrev pub is_runnable : List Function → ℕ → Bool
is_runnable functions f = is_ready (attached_of functions f)

-- the numbers of so many functions, from the one after the last on and around to the last
abbrev pub in_turn : ℕ → ℕ → List ℕ
in_turn last count = range_with_len (last + 1) (count - last) ++ range_with_len 1 last

-- the first that is runnable
abbrev pub next_runnable : List Function → ℕ → Option ℕ
next_runnable functions last = find (is_runnable functions) (in_turn last (length functions))

-- for a function that waits a request waits
abbrev pub IsSound : Function → Type 0
IsSound function = (attached : Attached) → function.attached ≡ Some attached → is_some attached.waiting ≡ true
    → is_empty attached.queue ≡ false

abbrev pub AreSound : List Function → Type 0
AreSound = AllByRecursion IsSound
