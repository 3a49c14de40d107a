-- The commands of the host as texts.
use Rattle.std.specs.Prelude.{ℕ, ◌≤◌, if◌then◌else◌, List, [], ◌∷◌, codes, Option, Some, None}
use Rattle.std.specs.Str.{bytes_eq}
use Rattle.nesc_base.specs.Name.{name_of}
use Rattle.nesc_base.specs.declared.numbers.FnNo.{FnNo}
use Rattle.nesc_requests.specs.declared.host.HostCommand.{HostCommand}
use Rattle.nesc_requests.specs.declared.host.HostCommand.TheVariants.{Create, Delete, Resize, Put, Map}
use Rattle.nesc_requests.specs.declared.host.HostCommand.TheVariants.{Get, Attach, Detach, Sync, Regs}
use Rattle.script_lang.specs.Numbers.{function_of, length_of}
use Rattle.script_lang.specs.Runs.{asked_run_of, buffer_for, written_run_of}
use Rattle.script_lang.specs.Words.{is_trimmed, words_of, ◌>>=◌}

-- create NAME LENGTH
abbrev pub create_of : List (List ℕ) → Option HostCommand
create_of (name ∷ len ∷ []) = do
  name ← name_of name
  len ← length_of len
  Some (Create name len)
create_of words = None

-- delete NAME
abbrev pub delete_of : List (List ℕ) → Option HostCommand
delete_of (name ∷ []) = name_of name >>= λ name. Some (Delete name)
delete_of words = None

-- resize NAME LENGTH
abbrev pub resize_of : List (List ℕ) → Option HostCommand
resize_of (name ∷ len ∷ []) = do
  name ← name_of name
  len ← length_of len
  Some (Resize name len)
resize_of words = None

-- put NAME V BLOCK..
abbrev pub put_of : List (List ℕ) → Option HostCommand
put_of (name ∷ words) = do
  name ← name_of name
  run ← written_run_of words
  Some (Put name run.0 run.1)
put_of words = None

-- map NAME V N
abbrev pub map_of : List (List ℕ) → Option HostCommand
map_of (name ∷ words) = do
  name ← name_of name
  run ← asked_run_of words
  Some (Map name run.0 run.1)
map_of words = None

-- get NAME V N
abbrev pub get_of : List (List ℕ) → Option HostCommand
get_of (name ∷ words) = do
  name ← name_of name
  run ← asked_run_of words
  Some (Get name run.0 (buffer_for run.1))
get_of words = None

-- attach F NAME
abbrev pub attach_of : ℕ → List (List ℕ) → Option HostCommand
attach_of functions (f ∷ name ∷ []) = do
  f ← function_of functions f
  name ← name_of name
  Some (Attach f name)
attach_of functions words = None

-- detach F
abbrev pub detach_of : ℕ → List (List ℕ) → Option HostCommand
detach_of functions (f ∷ []) = function_of functions f >>= λ f. Some (Detach f)
detach_of functions words = None

-- sync
abbrev pub sync_of : List (List ℕ) → Option HostCommand
sync_of [] = Some Sync
sync_of words = None

-- regs F
abbrev pub regs_of : ℕ → List (List ℕ) → Option HostCommand
regs_of functions (f ∷ []) = function_of functions f >>= λ f. Some (Regs f)
regs_of functions words = None

-- the command of this first word and those behind it, for a machine of so many functions, if it writes no blocks
abbrev pub unwritten_of : ℕ → List ℕ → List (List ℕ) → Option HostCommand
unwritten_of functions first words =
    if bytes_eq first (codes "create") then create_of words
    else if bytes_eq first (codes "delete") then delete_of words
    else if bytes_eq first (codes "resize") then resize_of words
    else if bytes_eq first (codes "map") then map_of words
    else if bytes_eq first (codes "get") then get_of words
    else if bytes_eq first (codes "attach") then attach_of functions words
    else if bytes_eq first (codes "detach") then detach_of functions words
    else if bytes_eq first (codes "sync") then sync_of words
    else if bytes_eq first (codes "regs") then regs_of functions words
    else None

-- the command of these words
abbrev pub command_of_words : ℕ → List (List ℕ) → Option HostCommand
command_of_words functions [] = None
command_of_words functions (first ∷ words) =
    if bytes_eq first (codes "put") then put_of words
    else unwritten_of functions first words

-- the command that a string is, if it is one
abbrev pub host_command_of : ℕ → List ℕ → Option HostCommand
host_command_of functions text = if is_trimmed text then command_of_words functions (words_of text) else None

-- there is a function of this number, among so many
abbrev pub IsFunction : ℕ → FnNo → Type 0
IsFunction functions f = (1 ≤ f.0) × (f.0 ≤ functions)

-- the function that a command names, if it names one, is there
abbrev pub NamesFunction : ℕ → HostCommand → Type 0
NamesFunction functions (Attach f name) = IsFunction functions f
NamesFunction functions (Detach f) = IsFunction functions f
NamesFunction functions (Regs f) = IsFunction functions f
NamesFunction functions command = Unit {0}
