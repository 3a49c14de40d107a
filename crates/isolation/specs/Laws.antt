-- What a function sees is decided by the history of its own file alone.
use Rattle.std.specs.Prelude.{◌≡◌, ◌⊎◌, ℕ, ◌+◌, List, [], ◌∷◌, Option, Some, slice_get}
use Rattle.std.specs.FinMap.{get}
use Rattle.std.specs.List.{AllByRecursion}
use Rattle.nesc_base.specs.declared.block.Block.{Block}
use Rattle.nesc_base.specs.declared.numbers.FnNo.{FnNo}
use Rattle.nesc_base.specs.Block.{zero_block}
use Rattle.nesc_base.specs.Files.{File}
use Rattle.nesc_requests.specs.declared.request.Request.{Request}
use Rattle.nesc_requests.specs.declared.request.Request.TheVariants.{Write}
use Rattle.file_model.specs.Files.{put}
use Rattle.plain_machine.specs.Groups.{EndTold, ok}
use Rattle.plain_machine.specs.Machine.{Run, StepTaken}
use Rattle.plain_machine.specs.State.{State}
use Rattle.plain_machine.specs.declared.setting.Setting.{Setting}
use Rattle.machine_laws.specs.Laws.{HasFileSets}
use Rattle.isolation.specs.History.{OwnEvent, OwnLine, asked, changed, data_from, lines_in, own_in, replied}
use Rattle.isolation.specs.Solo.{Solo, SoloRun, opened, solo_in}

-- Whatever run there is, from any files: what it tells the function while that has the file, and the host of the file,
-- is what the machine of this file and this function tells at their own events, and that machine stays what the plain
-- machine has of them.
abbrev pub IsToldAlone : FnNo → ℕ → Type 0
IsToldAlone f n =
    (setting : Setting) (old : State) (steps : List StepTaken) (new : State) → HasFileSets old
    → Run setting old steps new
    → SoloRun f n (solo_in f n old) (own_in f.0 n steps) (lines_in f.0 n steps) (solo_in f n new)

-- That machine has no choice.
abbrev pub HasOneSoloRun : FnNo → ℕ → Type 0
HasOneSoloRun f n =
    (old : Solo) (events : List OwnEvent) (here there : List OwnLine) (first second : Solo) →
    SoloRun f n old events here first
    → SoloRun f n old events there second → (here ≡ there) × (first ≡ second)

-- So two runs, on other files and beside other functions too, tell the same where the own history is the same.
abbrev pub SeesNoOther : FnNo → ℕ → Type 0
SeesNoOther f n =
    (setting other_setting : Setting) (one other : State) (steps others : List StepTaken) (first second : State) →
    HasFileSets one → HasFileSets other
    → Run setting one steps first → Run other_setting other others second → solo_in f n one ≡ solo_in f n other
    → own_in f.0 n steps ≡ own_in f.0 n others → lines_in f.0 n steps ≡ lines_in f.0 n others

-- No foreign bytes

-- the event brings this block for block v of the file: the block is put there, or a request is asked that writes it
-- there
abbrev pub BringsIn : ℕ → Block → Request → Type 0
BringsIn v block (Write first from) = (k : ℕ) × (v ≡ first + k) × (slice_get from k ≡ Some block)
BringsIn v block request = ⊥

abbrev pub Brings : ℕ → Block → OwnEvent → Type 0
Brings v block (changed (put n at brought)) = (at ≡ v) × (brought ≡ block)
Brings v block (asked id request) = BringsIn v block request
Brings v block event = ⊥

abbrev pub IsBrought : ℕ → Block → List OwnEvent → Type 0
IsBrought v block [] = ⊥
IsBrought v block (event ∷ events) = Brings v block event ⊎ IsBrought v block events

-- the file held it there when it was opened
abbrev pub WasHeld : Option File → ℕ → Block → Type 0
WasHeld opened v block = (file : File) × (opened ≡ Some file) × (get file.body v ≡ Some block)

-- the block is zeros, or stood there when the file was opened, or was brought there
abbrev pub IsOwn : Option File → List OwnEvent → ℕ → Block → Type 0
IsOwn file events v block = (block ≡ zero_block) ⊎ (WasHeld file v block ⊎ IsBrought v block events)

abbrev pub AreOwn : Option File → List OwnEvent → ℕ → List Block → Type 0
AreOwn file events v blocks = (k : ℕ) (block : Block) → slice_get blocks k ≡ Some block
    → IsOwn file events (v + k) block

abbrev pub TellsOwnBlocks : Option File → List OwnEvent → ℕ → EndTold → Type 0
TellsOwnBlocks file events v (ok done blocks) = AreOwn file events v blocks
TellsOwnBlocks file events v end = Unit {0}

abbrev pub TellsOwn : Option File → List OwnEvent → OwnLine → Type 0
TellsOwn file events (replied v reply) = TellsOwnBlocks file events v reply.end
TellsOwn file events (data_from v blocks) = AreOwn file events v blocks

-- Each block that is told is the file's own.
abbrev pub ShowsNoForeignBytes : FnNo → ℕ → Type 0
ShowsNoForeignBytes f n =
    (file : Option File) (events : List OwnEvent) (lines : List OwnLine) (new : Solo) →
    SoloRun f n (opened file) events lines new
    → AllByRecursion (TellsOwn file events) lines
