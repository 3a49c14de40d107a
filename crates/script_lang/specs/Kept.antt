-- What `Commands` keeps: commands and requests beside the blocks that they write.
use Rattle.std.specs.Prelude.{◌≡◌, ℕ, ◌-◌, Bool, false, List, [], ◌++◌, length}
use Rattle.std.specs.Prelude.{map, Option, Some, None, IfSome, option_to_list}
use Rattle.std.specs.List.{All, sum_by}
use Rattle.nesc_base.specs.declared.block.Block.{Block}
use Rattle.nesc_requests.specs.Buffers.{request_buffers}
use Rattle.nesc_requests.specs.Machine.{IsMachine}
use Rattle.nesc_requests.specs.Script.{IsWithinLimits, MayAsk, Script}
use Rattle.nesc_requests.specs.declared.machine.Machine.{Machine}
use Rattle.nesc_requests.specs.declared.request.Request.{Request}
use Rattle.script_lang.specs.Entries.{IsGuestEntry, IsHostEntry, command_in, request_in}
use Rattle.script_lang.specs.HostText.{NamesFunction}
use Rattle.script_lang.specs.Left.{Left}
use Rattle.script_lang.specs.declared.entries.GuestEntry.{GuestEntry}
use Rattle.script_lang.specs.declared.entries.HostEntry.{HostEntry}
use Rattle.script_lang.specs.declared.guest.Guest.{Guest}

-- whether the last request that was taken is out, by the request that came back, if one did, and whether any was taken
abbrev pub is_last_out : Option Request → Bool → Bool
is_last_out (Some request) taken = false
is_last_out None taken = taken

abbrev pub out_in : Guest → Bool
out_in guest = is_last_out guest.back guest.taken

-- how many buffers are kept with the request that came back
abbrev pub back_buffers : Option Request → ℕ
back_buffers (Some request) = request_buffers request
back_buffers None = 0

abbrev pub kept_in : Guest → ℕ
kept_in guest = back_buffers guest.back

-- the requests that a guest has left
abbrev pub requests_left : List Block → Guest → List Request
requests_left blocks guest = option_to_list guest.back ++ map (request_in blocks) guest.entries.items

-- a command is one that a text may have for so many functions, and what it needs is there
pub record IsHostKept (functions : ℕ) (blocks : List Block) (entry : HostEntry) : Type 0 where
  pub kept : IsHostEntry (length blocks) entry
  pub within : IsWithinLimits (command_in blocks entry)
  pub named : NamesFunction functions (command_in blocks entry)

-- so it is for the requests of guests
pub record IsGuestKept (blocks : List Block) (entry : GuestEntry) : Type 0 where
  pub kept : IsGuestEntry (length blocks) entry
  pub within : MayAsk (request_in blocks entry)

pub record IsGuest (blocks : List Block) (guest : Guest) : Type 0 where
  pub entries : All (IsGuestKept blocks) guest.entries.items
  pub back : IfSome guest.back MayAsk

-- a guest of which nothing was taken, whose requests have their blocks among so many
pub record IsFreshGuest (count : ℕ) (guest : Guest) : Type 0 where
  pub entries : All (IsGuestEntry count) guest.entries.items
  pub none : guest.back ≡ None
  pub inside : guest.taken ≡ false

-- a guest that has no requests, and guests with so many of those behind them that there is one for each function
pub record IsIdle (guest : Guest) : Type 0 where
  pub entries : guest.entries.items ≡ []
  pub none : guest.back ≡ None
  pub inside : guest.taken ≡ false

pub record AddsIdle (functions : ℕ) (named all : List Guest) : Type 0 where
  pub more : List Guest
  pub result : all ≡ named ++ more
  pub count : length more ≡ functions - length named
  pub idle : All IsIdle more

-- the script that is kept so
abbrev pub script_in : Machine → List Block → List HostEntry → List Guest → Script
script_in machine blocks host guests =
    record { machine = machine; host = map (command_in blocks) host; guests = map (requests_left blocks) guests }

-- what is left, where this is kept
abbrev pub left_of : Machine → List Block → List HostEntry → List Guest → Left
left_of machine blocks host guests = record {
  script = script_in machine blocks host guests;
  out = map out_in guests;
  kept = sum_by kept_in guests;
}

-- all that is kept is as it may be, and there is a guest for each function
pub record AreKept (machine : Machine) (blocks : List Block) (host : List HostEntry)
    (guests : List Guest) : Type 0 where
  pub is_machine : IsMachine machine
  pub is_host : All (IsHostKept machine.functions blocks) host
  pub are_guests : All (IsGuest blocks) guests
  pub count : length guests ≡ machine.functions
