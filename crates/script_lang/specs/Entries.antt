-- How commands and requests are kept: apart from the blocks that they write, which stand in one list for all of them.
use Rattle.std.specs.Prelude.{ℕ, ◌≤◌, List}
use Rattle.nesc_base.specs.Blocks.{most_in_request}
use Rattle.nesc_base.specs.declared.block.Block.{Block}
use Rattle.nesc_requests.specs.declared.host.HostCommand.{HostCommand}
use Rattle.nesc_requests.specs.declared.host.HostCommand.TheVariants as host
use Rattle.nesc_requests.specs.declared.request.Request.{Request}
use Rattle.nesc_requests.specs.declared.request.Request.TheVariants as request
use Rattle.script_lang.specs.Runs.{buffer_for}
use Rattle.script_lang.specs.Stored.{IsStored, blocks_at}
use Rattle.script_lang.specs.declared.entries.GuestEntry.{GuestEntry}
use Rattle.script_lang.specs.declared.entries.GuestEntry.TheVariants.{Read, Write, Flush}
use Rattle.script_lang.specs.declared.entries.HostEntry.{HostEntry}
use Rattle.script_lang.specs.declared.entries.HostEntry.TheVariants.{Create, Delete, Resize, Put, Map}
use Rattle.script_lang.specs.declared.entries.HostEntry.TheVariants.{Get, Attach, Detach, Sync, Regs}

-- the command that is kept so, beside all blocks
abbrev pub command_in : List Block → HostEntry → HostCommand
command_in blocks (Create name len) = host.Create name len
command_in blocks (Delete name) = host.Delete name
command_in blocks (Resize name len) = host.Resize name len
command_in blocks (Put name run) = host.Put name run.v (blocks_at blocks run)
command_in blocks (Map name v n) = host.Map name v n
command_in blocks (Get name v n) = host.Get name v (buffer_for n)
command_in blocks (Attach f name) = host.Attach f name
command_in blocks (Detach f) = host.Detach f
command_in blocks Sync = host.Sync
command_in blocks (Regs f) = host.Regs f

-- a buffer for so many blocks is one that there may be
pub record IsCount (n : ℕ) : Type 0 where
  pub some : 1 ≤ n
  pub few : n ≤ most_in_request

-- what it needs is there: its blocks among so many, or a buffer
abbrev pub IsHostEntry : ℕ → HostEntry → Type 0
IsHostEntry count (Put name run) = IsStored count run
IsHostEntry count (Get name v n) = IsCount n
IsHostEntry count entry = Unit {0}

-- it writes no blocks, so it is the same beside any
abbrev pub IsUnwritten : HostEntry → Type 0
IsUnwritten (Put name run) = ⊥
IsUnwritten (Get name v n) = IsCount n
IsUnwritten entry = Unit {0}

-- how many blocks it writes or reads
abbrev pub host_entry_blocks : HostEntry → ℕ
host_entry_blocks (Put name run) = run.count
host_entry_blocks (Get name v n) = n
host_entry_blocks entry = 0

-- so it is for the requests of guests
abbrev pub request_in : List Block → GuestEntry → Request
request_in blocks (Read v n) = request.Read v (buffer_for n)
request_in blocks (Write run) = request.Write run.v (blocks_at blocks run)
request_in blocks Flush = request.Flush

abbrev pub IsGuestEntry : ℕ → GuestEntry → Type 0
IsGuestEntry count (Read v n) = IsCount n
IsGuestEntry count (Write run) = IsStored count run
IsGuestEntry count Flush = Unit {0}

abbrev pub IsUnwrittenRequest : GuestEntry → Type 0
IsUnwrittenRequest (Read v n) = IsCount n
IsUnwrittenRequest (Write run) = ⊥
IsUnwrittenRequest Flush = Unit {0}

abbrev pub guest_entry_blocks : GuestEntry → ℕ
guest_entry_blocks (Read v n) = n
guest_entry_blocks (Write run) = run.count
guest_entry_blocks Flush = 0
