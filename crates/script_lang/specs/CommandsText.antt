-- What a commands file says: its script, or the first cause for which it is refused.
use Rattle.std.specs.Prelude.{ℕ, pos, ◌+◌, ◌-◌, nat_le, if◌then◌else◌, List, [], ◌∷◌, ◌++◌, length}
use Rattle.std.specs.Prelude.{replicate, codes, Option, Some, None, ok_or, Result, Ok, Err}
use Rattle.std.specs.List.{sum_by}
use Rattle.std.specs.Str.{is_utf8}
use Rattle.toml.specs.Data.{Data, string, array, table, Items, no_items, item, Members, no_members, get_member}
use Rattle.toml.specs.Parse.{parse_document}
use Rattle.nesc_requests.specs.Requests.{block_count}
use Rattle.nesc_requests.specs.Script.{Script}
use Rattle.nesc_requests.specs.declared.host.HostCommand.{HostCommand}
use Rattle.nesc_requests.specs.declared.host.HostCommand.TheVariants.{Put, Get}
use Rattle.nesc_requests.specs.declared.machine.Machine.{Machine}
use Rattle.nesc_requests.specs.declared.request.Request.{Request}
use Rattle.script_lang.specs.GuestText.{request_of}
use Rattle.script_lang.specs.HostText.{host_command_of}
use Rattle.script_lang.specs.Keys.{bad_key}
use Rattle.script_lang.specs.Limits.{most_blocks, short_enough}
use Rattle.script_lang.specs.MachineText.{machine_said}
use Rattle.script_lang.specs.Reads.{unless, ◌>>=◌}
use Rattle.script_lang.specs.declared.fault.InputFault.{InputFault}
use Rattle.script_lang.specs.declared.fault.InputFault.TheVariants.{BadCommand, BadToml, OverLimit}
use Rattle.script_lang.specs.declared.fault.Limit.TheVariants.{Blocks, Guests}
use Rattle.script_lang.specs.declared.keys.Level.TheVariants.{Top}

-- the keys and values of a TOML document in UTF-8
abbrev pub document_of : List ℕ → Result Members InputFault
document_of text = ok_or (if is_utf8 text then parse_document text else None) BadToml

-- the table at a key, which has nothing where the key is absent
abbrev pub table_in : Option Data → Members
table_in (Some (table entries)) = entries
table_in value = no_members

-- the items of the array at a key, none where the key is absent
abbrev pub items_in : Option Data → Items
items_in (Some (array items)) = items
items_in value = no_items

-- the strings of an array of strings
abbrev pub strings_of : Items → List (List ℕ)
strings_of no_items = []
strings_of (item (string text) items) = text ∷ strings_of items
strings_of (item value items) = strings_of items

-- the strings of each guest
abbrev pub guests_of : Items → List (List (List ℕ))
guests_of no_items = []
guests_of (item value items) = strings_of (items_in (Some value)) ∷ guests_of items

-- the guests, if there are no more of them than functions
abbrev pub few_guests : ℕ → List (List (List ℕ)) → Result (List (List (List ℕ))) InputFault
few_guests functions guests =
    if nat_le (length guests) functions then Ok guests else Err (OverLimit Guests (pos (length guests)))

-- what each string of an actor says, or the first that says nothing, where this is the index of the first string
abbrev pub each_said : {C : Type 0} → (List ℕ → Option C) → ℕ → ℕ → List (List ℕ) → Result (List C) InputFault
each_said said actor index [] = Ok []
each_said said actor index (text ∷ texts) = do
  command ← ok_or (said text) (BadCommand actor index)
  commands ← each_said said actor (index + 1) texts
  Ok (command ∷ commands)

-- the commands of the host, actor 0, on a machine of so many functions
abbrev pub host_said : ℕ → List (List ℕ) → Result (List HostCommand) InputFault
host_said functions texts = each_said (host_command_of functions) 0 1 texts

-- the requests of the guest of a function
abbrev pub requests_said : ℕ → List (List ℕ) → Result (List Request) InputFault
requests_said f texts = each_said request_of f 1 texts

-- so it is for each guest, the first of which has this function
abbrev pub guests_said : ℕ → List (List (List ℕ)) → Result (List (List Request)) InputFault
guests_said f [] = Ok []
guests_said f (texts ∷ more) = do
  requests ← requests_said f texts
  guests ← guests_said (f + 1) more
  Ok (requests ∷ guests)

-- there is a guest for each function; those that are not named have no requests
abbrev pub with_idle : ℕ → List (List Request) → List (List Request)
with_idle functions guests = guests ++ replicate (functions - length guests) []

-- how many blocks a command has to write or to read, and how many all commands and requests have
abbrev pub command_blocks : HostCommand → ℕ
command_blocks (Put name v blocks) = length blocks
command_blocks (Get name v into) = length into
command_blocks command = 0

abbrev pub blocks_in_all : Script → ℕ
blocks_in_all script = sum_by command_blocks script.host + sum_by (sum_by block_count) script.guests

-- so many blocks, if there may be so many
abbrev pub few_blocks : ℕ → Result ℕ InputFault
few_blocks blocks = if nat_le blocks most_blocks then Ok blocks else Err (OverLimit Blocks (pos blocks))

-- What the commands and requests of a document say for a machine, however many blocks they have. First it is judged how
-- many guests there are, and then all strings.
unfoldable pub strings_said : Machine → Members → Result Script InputFault
strings_said machine top = do
  named ← few_guests machine.functions (guests_of (items_in (get_member (codes "guest") top)))
  host ← host_said machine.functions (strings_of (items_in (get_member (codes "host") top)))
  guests ← guests_said 1 named
  Ok (record { machine = machine; host = host; guests = with_idle machine.functions guests })

-- so it is if they do not have too many
unfoldable pub commands_said : Machine → Members → Result Script InputFault
commands_said machine top = do
  script ← strings_said machine top
  blocks ← few_blocks (blocks_in_all script)
  Ok script

-- What the keys and values of a document say: first all keys are judged, then the numbers of the machine.
unfoldable pub script_of : Members → Result Script InputFault
script_of top = do
  top ← unless (bad_key Top top) top
  machine ← machine_said (table_in (get_member (codes "machine") top))
  commands_said machine top

-- the script that a text is, or why it is refused
unfoldable pub commands_of : List ℕ → Result Script InputFault
commands_of text = do
  text ← short_enough text
  document ← document_of text
  script_of document
