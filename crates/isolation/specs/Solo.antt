-- A machine of one file and one function. It has no data blocks to give, no other file and no other function.
use Rattle.std.specs.Prelude.{◌≡◌, ℕ, ◌==◌, Bool, if◌then◌else◌, List, [], ◌∷◌, ◌++◌, Option}
use Rattle.std.specs.Prelude.{Some, None, option_map, unwrap_or, ◌<◌, nat_eq, IsSome, IsSomeAnd}
use Rattle.std.specs.FinMap.{empty, get}
use Rattle.std.specs.List.{AllByRecursion, IsDistinct}
use Rattle.nesc_base.specs.declared.numbers.FnNo.{FnNo}
use Rattle.nesc_base.specs.Files.{File}
use Rattle.nesc_requests.specs.Requests.{first_of}
use Rattle.nesc_requests.specs.declared.request.Reply.{Reply}
use Rattle.file_model.specs.Files.{Change, below, create, delete, hold, put, read_from, resize, with_block, with_zeros}
use Rattle.plain_machine.specs.Functions.{Attached, Function, attached_of, fresh}
use Rattle.plain_machine.specs.Given.{is_failed_read}
use Rattle.plain_machine.specs.Groups.{reply_line_of}
use Rattle.plain_machine.specs.Handlings.{HandlesSo}
use Rattle.plain_machine.specs.State.{State}
use Rattle.plain_machine.specs.Submissions.{with_request}
use Rattle.plain_machine.specs.Ticks.{IsTurn, Turn, TurnsTo}
use Rattle.plain_machine.specs.declared.outcome.Answer.{Answer}
use Rattle.plain_machine.specs.declared.outcome.Handled.{Handled}
use Rattle.isolation.specs.History.{OwnEvent, OwnLine, asked, attached, bare, changed, data_from}
use Rattle.isolation.specs.History.{detached, got, handled, kept, replied, restarted, ticked}

-- One file

-- the file, or its absence, after a change of it
abbrev pub file_after : Change → Option File → Option File
file_after (create n name length) file = Some (record { name = name; length = length; body = empty })
file_after (delete n) file = None
file_after (resize n length) file =
    option_map (λ (old : File). record old { length = length; body = below length old.body }) file
file_after (hold n blocks) file = option_map (λ (old : File). record old { body = with_zeros old.body blocks }) file
file_after (put n v block) file = option_map (λ (old : File). with_block old v block) file

abbrev pub file_after_all : List Change → Option File → Option File
file_after_all [] file = file
file_after_all (change ∷ changes) file = file_after_all changes (file_after change file)

-- each of these blocks, none twice, lies below the file's length and is not held
pub record CanHold (blocks : List ℕ) (file : File) : Type 0 where
  pub below : AllByRecursion (λ v. v < file.length) blocks
  pub fresh : AllByRecursion (λ v. get file.body v ≡ None) blocks
  pub apart : IsDistinct nat_eq blocks

-- the change can be made: the file is made where there is none, and any other change is of one that stands
abbrev pub IsPossible : Change → Option File → Type 0
IsPossible (create n name length) file = file ≡ None
IsPossible (delete n) file = IsSome file
IsPossible (resize n length) file = IsSome file
IsPossible (hold n blocks) file = IsSomeAnd file (CanHold blocks)
IsPossible (put n v block) file = IsSomeAnd file (λ stands. IsSome (get stands.body v))

-- The machine

-- the file as it is and as it was kept, where there is one, and what the function has while it has this file
pub record Solo : Type 0 where
  pub now : Option File
  pub last_kept : Option File
  pub desk : Option Attached

-- the file that is read; where there is none, one without blocks
abbrev pub file_of : Solo → File
file_of solo = unwrap_or solo.now (record { name = []; length = 0; body = empty })

-- the function, with what it has at the desk
abbrev pub function_at_desk : Attached → Function
function_at_desk desk = record { attached = Some desk; next = 0 }

-- what a reply tells
abbrev pub told_by : Option Reply → List OwnLine
told_by None = []
told_by (Some reply) = replied (first_of reply.request) (reply_line_of reply) ∷ []

-- A tick takes the function, with this main line but for the nodes that were fetched.
pub record TicksAlone (f : FnNo) (old : Solo) (line : Answer) (clock : Option ℕ) (failed : Bool) (lines : List OwnLine)
    (new : Solo) : Type 0 where
  pub desk : Attached
  pub on : old.desk ≡ Some desk
  pub turn : Turn
  pub is : IsTurn f (function_at_desk desk) turn
  pub answer : Answer
  pub is_line : bare answer ≡ line
  pub reply : Option Reply
  pub changes : List Change
  pub later : Attached
  pub turns : TurnsTo (file_of old) turn answer clock reply changes later
  pub fails : is_failed_read reply ≡ failed
  pub told : lines ≡ told_by reply
  pub result : new ≡ record old { now = file_after_all changes old.now; desk = Some later }

-- A handling of the function ends so.
pub record HandlesAlone (f : FnNo) (old : Solo) (did : Handled) (lines : List OwnLine) (new : Solo) : Type 0 where
  pub desk : Attached
  pub on : old.desk ≡ Some desk
  pub reply : Option Reply
  pub changes : List Change
  pub later : Attached
  pub handles : HandlesSo (file_of old) f (function_at_desk desk) did reply changes (function_at_desk later)
  pub told : lines ≡ told_by reply
  pub result : new ≡ record old { now = file_after_all changes old.now; desk = Some later }

-- the blocks that the host reads of the file, unless the disk failed
abbrev pub data_told : Solo → ℕ → ℕ → Bool → List OwnLine
data_told solo v n failed = if failed then [] else data_from v (read_from (file_of solo) v n) ∷ []

-- What the machine of file n and function f does at an event, and what it tells.
abbrev pub SoloStep : FnNo → ℕ → Solo → OwnEvent → List OwnLine → Solo → Type 0
SoloStep f n old (changed change) lines new =
    (lines ≡ []) × IsPossible change old.now × (new ≡ record old { now = file_after change old.now })
SoloStep f n old (got v count failed) lines new = (lines ≡ data_told old v count failed) × (new ≡ old)
SoloStep f n old attached lines new = (lines ≡ []) × (new ≡ record old { desk = Some (fresh n) })
SoloStep f n old detached lines new = (lines ≡ []) × (new ≡ record old { desk = None })
SoloStep f n old (asked id request) lines new =
    (lines ≡ []) × (new ≡ record old { desk = option_map (λ (desk : Attached). with_request desk id request) old.desk })
SoloStep f n old (ticked line clock failed) lines new = TicksAlone f old line clock failed lines new
SoloStep f n old (handled did) lines new = HandlesAlone f old did lines new
SoloStep f n old kept lines new = (lines ≡ []) × (new ≡ record old { last_kept = old.now })
SoloStep f n old restarted lines new =
    (lines ≡ []) × (new ≡ record { now = old.last_kept; last_kept = old.last_kept; desk = None })

-- one event after another, and all that is told
abbrev pub SoloRun : FnNo → ℕ → Solo → List OwnEvent → List OwnLine → Solo → Type 0
SoloRun f n old [] lines new = (lines ≡ []) × (new ≡ old)
SoloRun f n old (event ∷ events) lines new =
    (next : Solo) × (told : List OwnLine) × (more : List OwnLine) × SoloStep f n old event told next
    × SoloRun f n next events more new × (lines ≡ told ++ more)

-- What the plain machine has of one file and one function

-- what the function has, while it has this file
abbrev pub desk_of : ℕ → Option Attached → Option Attached
desk_of n None = None
desk_of n (Some desk) = if desk.file == n then Some desk else None

abbrev pub solo_in : FnNo → ℕ → State → Solo
solo_in f n state =
    record { now = get state.now n; last_kept = get state.kept n; desk = desk_of n (attached_of state.functions f.0) }

-- that of a file as it was opened: it is kept, and the function does not have it
abbrev pub opened : Option File → Solo
opened file = record { now = file; last_kept = file; desk = None }
