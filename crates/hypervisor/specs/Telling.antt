-- What a command changes for a function, which the host tells the device.
use Rattle.std.specs.Prelude.{◌≡◌, ℕ, nat_lt, if◌then◌else◌, Bool, List, length, Option, Some, None, unwrap_or}
use Rattle.std.specs.FinMap.{len}
use Rattle.std.specs.List.{find, range_with_len}
use Rattle.nesc_base.specs.Files.{File, Files}
use Rattle.nesc_requests.specs.Script.{with_numbered}
use Rattle.nesc_requests.specs.declared.host.HostAnswer.{HostAnswer}
use Rattle.nesc_requests.specs.declared.host.HostAnswer.TheVariants as said
use Rattle.nesc_requests.specs.declared.host.HostCommand.{HostCommand}
use Rattle.nesc_requests.specs.declared.host.HostCommand.TheVariants.{Resize, Put, Map, Attach, Detach}
use Rattle.file_model.specs.Files.{HasName, below, unheld}
use Rattle.plain_machine.specs.Functions.{Function, attached_of, function_at, has_file}
use Rattle.plain_machine.specs.HostCommands.{attached_to, detached}
use Rattle.hypervisor.specs.Attachments.{Attachments, file_of}
use Rattle.hypervisor.specs.declared.change.Change.{Change}
use Rattle.hypervisor.specs.declared.change.Change.TheVariants.{Nothing, Attached, Detached, Sized, Remapped}

-- the functions, as the device has them after what it is told; these are the files that they have then
abbrev pub told : Change → Attachments → List Function → List Function
told (Attached f length) files functions = with_numbered functions f.0
    (attached_to (function_at functions f.0) (unwrap_or (file_of files f.0) (record { 0 = 0 })).0)
told (Detached f) files functions = with_numbered functions f.0 (detached (function_at functions f.0))
told change files functions = functions

-- the function that has a file
abbrev pub function_with : List Function → ℕ → Option ℕ
function_with functions n = find (λ f. has_file n (attached_of functions f)) (range_with_len 1 (length functions))

-- a file that a function has got another length; the file gave back blocks, or did not
abbrev pub TellsLength : Option ℕ → ℕ → Bool → Change → Type 0
TellsLength None length given change = change ≡ Nothing
TellsLength (Some f) length given change = change ≡ Sized (record { 0 = f }) length given

-- a file that a function has came to hold so many blocks more
abbrev pub TellsBlocks : Option ℕ → ℕ → Change → Type 0
TellsBlocks None count change = change ≡ Nothing
TellsBlocks (Some f) count change = change ≡ (if nat_lt 0 count then Remapped (record { 0 = f }) else Nothing)

-- what is told of a file of this name
abbrev pub OfFile : Files → List ℕ → (ℕ → File → Type 0) → Type 0
OfFile files name tells = (number : ℕ) × (file : File) × HasName files name number file × tells number file

-- What the device is told of a command that these files and functions answer so: of an attach and a detach that are
-- done; of a file that a function has and that got another length, or came to hold blocks; and of nothing else.
abbrev pub TellsDevice : Files → List Function → HostCommand → HostAnswer → Change → Type 0
TellsDevice files functions (Attach f name) said.Ok change =
    OfFile files name (λ number file. change ≡ Attached f file.length)
TellsDevice files functions (Detach f) said.Ok change = change ≡ Detached f
TellsDevice files functions (Resize name length) said.Ok change =
    OfFile files name (λ number file. TellsLength (function_with functions number) length
    (nat_lt (len (below length file.body)) (len file.body)) change)
TellsDevice files functions (Put name v blocks) said.Ok change =
    OfFile files name
    (λ number file. TellsBlocks (function_with functions number) (length (unheld file v (length blocks))) change)
TellsDevice files functions (Map name v n) said.Ok change =
    OfFile files name (λ number file. TellsBlocks (function_with functions number) (length (unheld file v n)) change)
TellsDevice files functions command answer change = change ≡ Nothing
