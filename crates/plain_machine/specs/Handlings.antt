-- A handling: the host does what a function waits for.
use Rattle.std.specs.Prelude.{◌≡◌, ℕ, ◌<◌, ◌≤◌, nat_lt, not, ◌&&◌, min, Bool, true}
use Rattle.std.specs.Prelude.{false, List, [], ◌∷◌, length, take, Option, Some, None}
use Rattle.nesc_base.specs.declared.numbers.FnNo.{FnNo}
use Rattle.nesc_requests.specs.declared.request.End.TheVariants as end
use Rattle.nesc_requests.specs.declared.request.Kind.TheVariants.{Pruned, Unmapped}
use Rattle.nesc_requests.specs.declared.request.Miss.{Miss}
use Rattle.nesc_requests.specs.declared.request.Reply.{Reply}
use Rattle.nesc_base.specs.Files.{File, Files, file_at}
use Rattle.file_model.specs.Files.{Change, holding, holds, unheld_below}
use Rattle.plain_machine.specs.Functions.{Attached, Function, file_number, waiting_of}
use Rattle.plain_machine.specs.Ticks.{IsTurn, Turn, ended, reply_of}
use Rattle.plain_machine.specs.declared.outcome.Answer.{Answer}
use Rattle.plain_machine.specs.declared.outcome.Answer.TheVariants as happened
use Rattle.plain_machine.specs.declared.outcome.Handled.{Handled}
use Rattle.plain_machine.specs.declared.outcome.Handled.TheVariants as handled
use Rattle.plain_machine.specs.declared.outcome.Outcome.{Outcome}

-- those of the blocks of a miss that lie below the length and are not held, in rising order
abbrev pub wanted : File → Miss → List ℕ
wanted file miss = unheld_below file miss.v miss.n

-- its first block lies below the length and is not held
abbrev pub is_wanted : File → Miss → Bool
is_wanted file miss = nat_lt miss.v file.length && not (holds file miss.v)

-- it waits no more
abbrev pub ready : Attached → Attached
ready attached = record attached { waiting = None }

-- the function waited for a part of its tree, and is ready
pub record Builds (old : Function) (reply : Option Reply) (changes : List Change) (new : Function) : Type 0 where
  pub attached : Attached
  pub on : old.attached ≡ Some attached
  pub miss : Miss
  pub waits : attached.waiting ≡ Some miss
  pub pruned : miss.kind ≡ Pruned
  pub unchanged : changes ≡ []
  pub silent : reply ≡ None
  pub result : new ≡ record old { attached = Some (ready attached) }

-- it waited for blocks; the first so many of those that it wants are held; and it is ready
pub record HoldsFirst (file : File) (old : Function) (count : ℕ) (reply : Option Reply) (changes : List Change)
    (new : Function) : Type 0 where
  pub attached : Attached
  pub on : old.attached ≡ Some attached
  pub miss : Miss
  pub waits : attached.waiting ≡ Some miss
  pub unmapped : miss.kind ≡ Unmapped
  pub holds : changes ≡ holding attached.file (take count (wanted file miss))
  pub silent : reply ≡ None
  pub result : new ≡ record old { attached = Some (ready attached) }

-- it waited for a block that it wants; the request, its first, ends as it is; and it is ready
pub record EndsWithoutSpace (file : File) (f : FnNo) (old : Function) (reply : Option Reply) (changes : List Change)
    (new : Function) : Type 0 where
  pub turn : Turn
  pub is : IsTurn f old turn
  pub miss : Miss
  pub waits : turn.attached.waiting ≡ Some miss
  pub unmapped : miss.kind ≡ Unmapped
  pub wants : is_wanted file miss ≡ true
  pub unchanged : changes ≡ []
  pub replies : reply ≡ Some (reply_of turn end.NoSpace turn.attached.done turn.head.request)
  pub result : new ≡ record old { attached = Some (ready (ended turn)) }

-- what a handling that ends so does for function f, whose file is this one
abbrev pub HandlesSo : File → FnNo → Function → Handled → Option Reply → List Change → Function → Type 0
HandlesSo file f old handled.None reply changes new =
    (waiting_of old ≡ None) × (reply ≡ None) × (changes ≡ []) × (new ≡ old)
HandlesSo file f old handled.Built reply changes new = Builds old reply changes new
HandlesSo file f old (handled.Held count) reply changes new = HoldsFirst file old count reply changes new
HandlesSo file f old handled.NoSpace reply changes new = EndsWithoutSpace file f old reply changes new

-- what a handling does for function f, over these files
pub record Handles (files : Files) (f : FnNo) (old : Function) (outcome : Outcome) (changes : List Change)
    (new : Function) : Type 0 where
  pub did : Handled
  pub handles : HandlesSo (file_at files (file_number old)) f old did outcome.reply changes new
  pub told : outcome.answer ≡ happened.Handled f did
  pub no_commit : outcome.after ≡ None

-- What is free decides how many blocks are held: as many of those that are wanted as there are free data blocks; and
-- that there is no space: where none is free and the first block is wanted. That stands apart from what a handling does
-- to a function and its file, so that what others hold enters here alone.
abbrev pub HasSpaceFor : ℕ → File → Miss → Handled → Type 0
HasSpaceFor free file miss (handled.Held count) =
    (count ≡ min (length (wanted file miss)) free) × (is_wanted file miss ≡ true → 1 ≤ free)
HasSpaceFor free file miss handled.NoSpace = free ≡ 0
HasSpaceFor free file miss other = Unit {0}

-- so it is for what a function waits for, over these files
abbrev pub FindsSpace : ℕ → Files → Function → Answer → Type 0
FindsSpace free files function (happened.Handled f did) =
    (miss : Miss) → waiting_of function ≡ Some miss → HasSpaceFor free (file_at files (file_number function)) miss did
FindsSpace free files function answer = Unit {0}
