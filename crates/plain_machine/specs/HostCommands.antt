-- What the host is answered, and what its commands do.
use Rattle.std.specs.Prelude.{◌≡◌, ℕ, ◌+◌, ◌<◌, ◌≤◌, true, false, List, [], ◌∷◌, ◌++◌, length, Option, Some, None}
use Rattle.nesc_base.specs.declared.block.Block.{Block}
use Rattle.nesc_base.specs.Files.{File, Files, file_at}
use Rattle.nesc_requests.specs.declared.host.HostAnswer.{HostAnswer}
use Rattle.nesc_requests.specs.declared.host.HostAnswer.TheVariants as said
use Rattle.nesc_requests.specs.declared.host.HostCommand.{HostCommand}
use Rattle.nesc_requests.specs.declared.host.HostCommand.TheVariants.{Create, Delete, Resize, Put, Map}
use Rattle.nesc_requests.specs.declared.host.HostCommand.TheVariants.{Get, Attach, Detach, Sync, Regs}
use Rattle.nesc_requests.specs.declared.request.Kind.{Kind}
use Rattle.nesc_requests.specs.declared.request.Kind.TheVariants.{Pruned, Unmapped}
use Rattle.nesc_requests.specs.declared.request.Miss.{Miss}
use Rattle.file_model.specs.Files.{Change, HasName, IsFull, IsNamed, IsUnnamed, create, delete}
use Rattle.file_model.specs.Files.{free, holding, puts_from, read_from, resize, unheld}
use Rattle.plain_machine.specs.Functions.{Attached, Becomes, Function, attached_of, fresh}
use Rattle.plain_machine.specs.Functions.{function_at, is_empty, is_off, is_taken, pending}

-- Files

-- a file has the name, and so many blocks from v on do not all lie below its length
pub record IsOutside (files : Files) (name : List ℕ) (v n : ℕ) : Type 0 where
  pub number : ℕ
  pub file : File
  pub named : HasName files name number file
  pub past : file.length < v + n

-- they do
pub record IsInside (files : Files) (name : List ℕ) (v n : ℕ) : Type 0 where
  pub number : ℕ
  pub file : File
  pub named : HasName files name number file
  pub within : v + n ≤ file.length

-- they do, and of so many data blocks fewer are free than there are of these that are not held
pub record LacksSpace (blocks : ℕ) (files : Files) (name : List ℕ) (v n are_free needed : ℕ) : Type 0 where
  pub number : ℕ
  pub file : File
  pub named : HasName files name number file
  pub within : v + n ≤ file.length
  pub frees : are_free ≡ free blocks files
  pub lacks : needed ≡ length (unheld file v n)
  pub few : are_free < needed

-- of the file of this name as many data blocks are free as there are of its n blocks from v on that are not held
abbrev pub HasSpace : ℕ → Files → List ℕ → ℕ → ℕ → Type 0
HasSpace blocks files name v n = (number : ℕ) (file : File) → HasName files name number file
    → length (unheld file v n) ≤ free blocks files

-- a file has the name, and gets another length
pub record ResizesFile (files : Files) (name : List ℕ) (length : ℕ) (changes : List Change) : Type 0 where
  pub number : ℕ
  pub file : File
  pub named : HasName files name number file
  pub sized : changes ≡ resize number length ∷ []

-- a file has the name, and those of its n blocks from v on that were not held are held
pub record MapsBlocks (files : Files) (name : List ℕ) (v n : ℕ) (changes : List Change) : Type 0 where
  pub number : ℕ
  pub file : File
  pub named : HasName files name number file
  pub within : v + n ≤ file.length
  pub holds : changes ≡ holding number (unheld file v n)

-- a file has the name, and all its blocks from v on that were not held are held and then all are put
pub record PutsBlocks (files : Files) (name : List ℕ) (v : ℕ) (blocks : List Block)
    (changes : List Change) : Type 0 where
  pub number : ℕ
  pub file : File
  pub named : HasName files name number file
  pub within : v + length blocks ≤ file.length
  pub puts : changes ≡ holding number (unheld file v (length blocks)) ++ puts_from number v blocks

-- a file has the name, and these are the n blocks that are read from v on
pub record GetsBlocks (files : Files) (name : List ℕ) (v n : ℕ) (blocks : List Block) : Type 0 where
  pub number : ℕ
  pub file : File
  pub named : HasName files name number file
  pub within : v + n ≤ file.length
  pub read : blocks ≡ read_from file v n

-- What a command on files alone is answered, and which changes it makes, where there are so many data blocks. A command
-- has the first answer that applies, in the order in which they stand here, and a refused one changes nothing. That a
-- block that is read cannot be is given. Of a create that is `Ok` this says only that one change is made: that the name
-- is free, and the number the lowest, is said by `Changes`, in whatever takes the list.
abbrev pub AnswersFor : ℕ → Files → HostCommand → HostAnswer → List Change → Type 0
AnswersFor blocks files (Create name len) said.Exists changes = IsNamed files name × (changes ≡ [])
AnswersFor blocks files (Create name len) said.NoSlot changes = IsUnnamed files name × IsFull files × (changes ≡ [])
AnswersFor blocks files (Create name len) said.Ok changes = (number : ℕ) × (changes ≡ create number name len ∷ [])
AnswersFor blocks files (Resize name len) said.NoFile changes = IsUnnamed files name × (changes ≡ [])
AnswersFor blocks files (Resize name len) said.Ok changes = ResizesFile files name len changes
AnswersFor blocks files (Put name v from) said.NoFile changes = IsUnnamed files name × (changes ≡ [])
AnswersFor blocks files (Put name v from) said.Range changes = IsOutside files name v (length from) × (changes ≡ [])
AnswersFor blocks files (Put name v from) (said.NoSpace are_free needed) changes =
    LacksSpace blocks files name v (length from) are_free needed × (changes ≡ [])
AnswersFor blocks files (Put name v from) said.Ok changes =
    HasSpace blocks files name v (length from) × PutsBlocks files name v from changes
AnswersFor blocks files (Map name v n) said.NoFile changes = IsUnnamed files name × (changes ≡ [])
AnswersFor blocks files (Map name v n) said.Range changes = IsOutside files name v n × (changes ≡ [])
AnswersFor blocks files (Map name v n) (said.NoSpace are_free needed) changes =
    LacksSpace blocks files name v n are_free needed × (changes ≡ [])
AnswersFor blocks files (Map name v n) said.Ok changes =
    HasSpace blocks files name v n × MapsBlocks files name v n changes
AnswersFor blocks files (Get name v into) said.NoFile changes = IsUnnamed files name × (changes ≡ [])
AnswersFor blocks files (Get name v into) said.Range changes = IsOutside files name v (length into) × (changes ≡ [])
AnswersFor blocks files (Get name v into) said.Media changes = IsInside files name v (length into) × (changes ≡ [])
AnswersFor blocks files (Get name v into) (said.Got got) changes =
    GetsBlocks files name v (length into) got × (changes ≡ [])
AnswersFor blocks files command answer changes = ⊥

-- Files that functions have

-- a file has the name, and a function has it
pub record IsFileTaken (files : Files) (functions : List Function) (name : List ℕ) : Type 0 where
  pub number : ℕ
  pub file : File
  pub named : HasName files name number file
  pub taken : is_taken functions number ≡ true

-- a file has the name, no function has it, and it goes
pub record DeletesFile (files : Files) (functions : List Function) (name : List ℕ)
    (changes : List Change) : Type 0 where
  pub number : ℕ
  pub file : File
  pub named : HasName files name number file
  pub unused : is_taken functions number ≡ false
  pub gone : changes ≡ delete number ∷ []

-- what a delete is answered, by the same order
abbrev pub DeleteStep : Files → List Function → List ℕ → HostAnswer → List Change → Type 0
DeleteStep files functions name said.NoFile changes = IsUnnamed files name × (changes ≡ [])
DeleteStep files functions name said.Attached changes = IsFileTaken files functions name × (changes ≡ [])
DeleteStep files functions name said.Ok changes = DeletesFile files functions name changes
DeleteStep files functions name answer changes = ⊥

-- the function with the file of this number
abbrev pub attached_to : Function → ℕ → Function
attached_to function number = record function { attached = Some (fresh number) }

-- a file has the name, no function has it, and the function is off and has it now
pub record Attaches (files : Files) (old : List Function) (f : ℕ) (name : List ℕ) (new : List Function) : Type 0 where
  pub number : ℕ
  pub file : File
  pub named : HasName files name number file
  pub off : is_off old f ≡ true
  pub unused : is_taken old number ≡ false
  pub given : Becomes (λ before after. after ≡ attached_to before number) f old new

-- What an attach is answered, and what it leaves, by the same order. A function that is not off has a file, or is none.
abbrev pub AttachStep : Files → List Function → ℕ → List ℕ → HostAnswer → List Function → Type 0
AttachStep files old f name said.NoFile new = IsUnnamed files name × (new ≡ old)
AttachStep files old f name said.FunctionTaken new = IsNamed files name × (is_off old f ≡ false) × (new ≡ old)
AttachStep files old f name said.FileTaken new = (is_off old f ≡ true) × IsFileTaken files old name × (new ≡ old)
AttachStep files old f name said.Ok new = Attaches files old f name new
AttachStep files old f name answer new = ⊥

-- Functions

-- the function has a file, and requests wait for it or none do
pub record HasQueue (functions : List Function) (f : ℕ) (waits : Attached → Type 0) : Type 0 where
  pub attached : Attached
  pub on : attached_of functions f ≡ Some attached
  pub queue : waits attached

-- the function without its file
abbrev pub detached : Function → Function
detached function = record function { attached = None }

-- What a detach is answered, and what it leaves, by the same order. A function that has no file is off, or is none.
abbrev pub DetachStep : List Function → ℕ → HostAnswer → List Function → Type 0
DetachStep old f said.NotAttached new = (attached_of old f ≡ None) × (new ≡ old)
DetachStep old f said.Queued new = HasQueue old f (λ attached. is_empty attached.queue ≡ false) × (new ≡ old)
DetachStep old f said.Ok new = HasQueue old f (λ attached. is_empty attached.queue ≡ true)
    × Becomes (λ before after. after ≡ detached before) f old new
DetachStep old f answer new = ⊥

-- why a function waits, as a register shows it
abbrev pub kind_number : Kind → ℕ
kind_number Pruned = 1
kind_number Unmapped = 2

-- the registers: the length of the function's file, what it waits for, or zeros, and which functions wait
abbrev pub registers : ℕ → Option Miss → ℕ → HostAnswer
registers length None waiting = said.Regs length 0 0 0 waiting
registers length (Some miss) waiting = said.Regs length miss.v miss.n (kind_number miss.kind) waiting

-- the function has a file, and these are its registers
pub record ShowsRegisters (files : Files) (functions : List Function) (f : ℕ) (answer : HostAnswer) : Type 0 where
  pub attached : Attached
  pub on : attached_of functions f ≡ Some attached
  pub shown : answer ≡ registers (file_at files attached.file).length attached.waiting (pending functions)

-- what a read of registers is answered, by the same order
abbrev pub RegsStep : Files → List Function → ℕ → HostAnswer → Type 0
RegsStep files functions f said.NotAttached = attached_of functions f ≡ None
RegsStep files functions f answer = ShowsRegisters files functions f answer

-- The command is answered so, by these changes of the files, of which there are so many data blocks, and leaves these
-- functions.
abbrev pub HostStep : ℕ → Files → List Function → HostCommand → HostAnswer → List Change → List Function → Type 0
HostStep blocks files functions (Delete name) answer changes new =
    DeleteStep files functions name answer changes × (new ≡ functions)
HostStep blocks files functions (Attach f name) answer changes new =
    AttachStep files functions f.0 name answer new × (changes ≡ [])
HostStep blocks files functions (Detach f) answer changes new = DetachStep functions f.0 answer new × (changes ≡ [])
HostStep blocks files functions Sync answer changes new = (answer ≡ said.Ok) × (changes ≡ []) × (new ≡ functions)
HostStep blocks files functions (Regs f) answer changes new =
    RegsStep files functions f.0 answer × (changes ≡ []) × (new ≡ functions)
HostStep blocks files functions command answer changes new =
    AnswersFor blocks files command answer changes × (new ≡ functions)
