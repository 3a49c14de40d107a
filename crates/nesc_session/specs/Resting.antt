-- The machine while it runs: what it is in itself, when it goes with its disk, and which state of the plain machine it
-- is in.
use Rattle.std.specs.Prelude.{◌≡◌, ℕ, ◌≤◌, true, List, length, Option, Some, None}
use Rattle.nesc_base.specs.declared.block.Block.{Block}
use Rattle.nesc_base.specs.Files.{Files}
use Rattle.nesc_base.specs.Places.{Places}
use Rattle.nesc_base.specs.declared.numbers.FileNo.{FileNo}
use Rattle.nesc_base.specs.Disk.{Known}
use Rattle.nesc_requests.specs.Machine.{IsMachine}
use Rattle.nesc_requests.specs.Script.{numbered}
use Rattle.file_layer.specs.Layer.{IsUsed}
use Rattle.file_layer.specs.Showing.{RestsOn, Shows}
use Rattle.host_journal.specs.Kept.{IsKept}
use Rattle.hypervisor.specs.Attachments.{file_of}
use Rattle.image_layout.specs.Opens.{Opens}
use Rattle.plain_machine.specs.Functions.{Function}
use Rattle.plain_machine.specs.Placing.{Placed}
use Rattle.plain_machine.specs.State.{State}
use Rattle.nesc_session.specs.Requests.{HoldsUpTo, Requests, functions_of}
use Rattle.nesc_session.specs.declared.session.Session.{Session}

-- the functions of the machine
abbrev pub functions_in : Session → List Function
functions_in session = functions_of session.attachments session.requests.items

-- a function without a file has no requests
abbrev pub IsIdleWhereOff : List (Option FileNo) → List Requests → Type 0
IsIdleWhereOff files all = (f : ℕ) (requests : Requests) → numbered all f ≡ Some requests → file_of files f ≡ None
    → (length requests.queue.requests ≡ 0)

-- what it is in itself: of as many functions as its machine has each has a file that stands, or none and no requests;
-- and as many requests may wait for each as the machine says, and no more do
pub record IsSession (session : Session) : Type 0 where
  pub machine : IsMachine session.setting.machine
  pub division : session.files.geometry ≡ session.setting.geometry
  pub attachments : length session.attachments ≡ session.setting.machine.functions
  pub functions : length session.requests.items ≡ session.setting.machine.functions
  pub last : session.last ≤ session.setting.machine.functions
  pub used : (f : ℕ) (file : FileNo) → file_of session.attachments f ≡ Some file → IsUsed session.files file.0
  pub idle : IsIdleWhereOff session.attachments session.requests.items
  pub few : (f : ℕ) (requests : Requests) → numbered session.requests.items f ≡ Some requests
      → HoldsUpTo session.setting.machine.queue requests.queue

-- the session goes with this disk, which opens as some files as it reads
pub record Rests (session : Session) (disk : Known) : Type 0 where
  pub sound : IsSession session
  pub rests : RestsOn session.files session.journal disk
  pub opens : disk.tells ≡ true
      → (files : Files) × (places : Places) × Opens disk.contents session.journal.geometry files places

-- Over these kept blocks the session is in this state, with blocks at these places: with what is staged the blocks show
-- the files that there are now, and they open as the files that were kept.
pub record Stands (session : Session) (kept : List Block) (state : State) (placed : Placed) : Type 0 where
  pub now : Shows session.files session.journal.staged kept state.now placed.now
  pub kept_files : Opens kept session.journal.geometry state.kept placed.kept
  pub functions : state.functions ≡ functions_in session
  pub last : state.last ≡ session.last
  pub count : state.count ≡ session.journal.count

-- so it is over the blocks that a disk has kept that tells
pub record IsIn (session : Session) (disk : Known) (kept : List Block) (state : State) (placed : Placed) : Type 0 where
  pub has_kept : IsKept session.journal.geometry disk kept
  pub stands : Stands session kept state placed
