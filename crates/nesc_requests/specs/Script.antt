-- What the host and the guests have to give.
use Rattle.std.specs.Prelude.{ℕ, zero, suc, ◌<◌, ◌≤◌, IsTrue, List, [], length}
use Rattle.std.specs.Prelude.{slice_get, slice_set, Option, None, unwrap_or}
use Rattle.nesc_base.specs.Blocks.{most_in_request}
use Rattle.nesc_base.specs.Files.{longest_file}
use Rattle.nesc_base.specs.Name.{is_name}
use Rattle.nesc_requests.specs.declared.machine.Machine.{Machine}
use Rattle.nesc_requests.specs.declared.host.HostCommand.{HostCommand}
use Rattle.nesc_requests.specs.declared.host.HostCommand.TheVariants.{Create, Delete, Resize, Put, Map}
use Rattle.nesc_requests.specs.declared.host.HostCommand.TheVariants.{Get, Attach, Detach, Sync, Regs}
use Rattle.nesc_requests.specs.declared.request.Request.{Request}
use Rattle.nesc_requests.specs.declared.request.Request.TheVariants.{Read, Write, Flush}

-- the entry of a number, counted from 1
abbrev pub numbered : {A : Type 0} → List A → ℕ → Option A
numbered xs zero = None
numbered xs (suc i) = slice_get xs i

-- the list with another entry of this number
abbrev pub with_numbered : {A : Type 0} → List A → ℕ → A → List A
with_numbered xs zero x = xs
with_numbered xs (suc i) x = slice_set xs i x

-- the numbers of the machine, the host's commands, and the requests of each guest, numbered from 1
pub record Script : Type 0 where
  pub machine : Machine
  pub host : List HostCommand
  pub guests : List (List Request)

-- the requests of a guest
abbrev pub requests_of : Script → ℕ → List Request
requests_of script f = unwrap_or (numbered script.guests f) []

-- so many blocks are what one request or command may have
pub record IsFew (n : ℕ) : Type 0 where
  pub some : 1 ≤ n
  pub few : n ≤ most_in_request

-- what the commands of a file may be: their names are names, and their lengths and blocks those of files
abbrev pub IsWithinLimits : HostCommand → Type 0
IsWithinLimits (Create name len) = IsTrue (is_name name) × (len ≤ longest_file)
IsWithinLimits (Delete name) = IsTrue (is_name name)
IsWithinLimits (Resize name len) = IsTrue (is_name name) × (len ≤ longest_file)
IsWithinLimits (Put name v blocks) = IsTrue (is_name name) × (v < longest_file) × IsFew (length blocks)
IsWithinLimits (Map name v n) = IsTrue (is_name name) × (v < longest_file) × IsFew n
IsWithinLimits (Get name v into) = IsTrue (is_name name) × (v < longest_file) × IsFew (length into)
IsWithinLimits (Attach f name) = IsTrue (is_name name)
IsWithinLimits (Detach f) = Unit {0}
IsWithinLimits Sync = Unit {0}
IsWithinLimits (Regs f) = Unit {0}

-- and so are the requests of guests
abbrev pub MayAsk : Request → Type 0
MayAsk (Read v into) = (v < longest_file) × IsFew (length into)
MayAsk (Write v from) = (v < longest_file) × IsFew (length from)
MayAsk Flush = Unit {0}
