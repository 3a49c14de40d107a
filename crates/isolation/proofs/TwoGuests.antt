-- Beside another guest: what is done for another function with another file, and what the host does to that file, leaves the
-- own history of this function and this file empty. It leaves something in the other's.
use Rattle.std.proofs.Common.{◌≡◌, ℕ, false, not, cond, List, [], ◌∷◌, ◌++◌, map, Option, Some, None, refl, ap, ◌∙◌, arith, is_some, unwrap_or}
use Rattle.std.specs.FinMap.{empty, insert}
use Rattle.std.specs.Option.{option_map_or}
use Rattle.std.specs.Str.{bytes_eq}
use Rattle.nesc_base.specs.Files.{File, Files, file_at}
use Rattle.nesc_base.specs.declared.block.Block.{Block}
use Rattle.nesc_base.specs.declared.numbers.FnNo.{FnNo}
use Rattle.nesc_base.proofs.Maps.{get-insert_other, get-insert_same}
use Rattle.nesc_requests.specs.declared.event.Event.TheVariants.{Handle, Host, Tick}
use Rattle.nesc_requests.specs.declared.host.HostAnswer.TheVariants as said
use Rattle.nesc_requests.specs.declared.host.HostCommand.{HostCommand}
use Rattle.nesc_requests.specs.declared.host.HostCommand.TheVariants.{Put}
use Rattle.nesc_requests.specs.declared.request.End.TheVariants as end
use Rattle.nesc_requests.specs.declared.request.Kind.TheVariants.{Unmapped}
use Rattle.nesc_requests.specs.declared.request.Miss.{Miss}
use Rattle.nesc_requests.specs.declared.request.Reply.{Reply}
use Rattle.nesc_requests.specs.declared.request.Request.{Request}
use Rattle.nesc_requests.specs.declared.request.Request.TheVariants.{Write}
use Rattle.file_model.specs.Files.{holding, put}
use Rattle.plain_machine.specs.Functions.{Function, fresh}
use Rattle.plain_machine.specs.State.{State}
use Rattle.plain_machine.specs.declared.outcome.Answer.{Answer}
use Rattle.plain_machine.specs.declared.outcome.Answer.TheVariants as happened
use Rattle.plain_machine.specs.declared.outcome.Handled.TheVariants as did
use Rattle.plain_machine.specs.declared.outcome.How.TheVariants.{Walk}
use Rattle.plain_machine.specs.declared.outcome.Outcome.{Outcome}
use Rattle.isolation.specs.History.{changed, handled, host_changes, is_called, own_of_event, replies_of, ticked}

-- two files
abbrev pub first_file : File
first_file = record { name = 97 ∷ []; length = 10; body = empty }

abbrev pub second_file : Block → File
second_file block = record { name = 98 ∷ []; length = 10; body = insert empty 3 block }

-- the second's name
abbrev pub second_name : List ℕ
second_name = 98 ∷ []

-- the second function
abbrev pub second : FnNo
second = record { 0 = 2 }

-- an outcome of this answer, with this reply
abbrev pub outcome_of : Answer → Option Reply → Outcome
outcome_of answer reply = record { before = None; answer = answer; drops = 0; built = None; after = None; reply = reply }

-- a function that has this file, no request, and waits for nothing
abbrev pub at_rest : ℕ → Function
at_rest file = record { attached = Some (fresh file); next = 2 }

-- a function that has the second file, one request, and waits for this, if it does
abbrev pub at_work : Request → Option Miss → Function
at_work request waiting =
    record { attached = Some (record { file = 2; queue = (record { id = 1; request = request }) ∷ []; done = 0; waiting = waiting }); next = 2 }

-- the block that stands in the second file, and is written there again
module _ (block : Block) where
  -- the files
  abbrev pub files : Files
  files = insert (insert empty 1 first_file) 2 (second_file block)

  -- the first function has the first file, and the second is this
  abbrev pub beside : Function → State
  beside other = record { now = files; kept = files; functions = at_rest 1 ∷ other ∷ []; last = 0; count = 0 }

  -- Files by their names

  -- the first file has its own name alone
  pub called_first : (name : List ℕ) → is_called files 1 name ≡ bytes_eq (97 ∷ []) name
  called_first name =
      ap (λ found. option_map_or (λ (file : File). bytes_eq file.name name) found false)
      (get-insert_other (insert empty 1 first_file) 2 (second_file block) 1 (omega arith) ∙ get-insert_same empty 1 first_file)

  -- so has the second
  called_second : (name : List ℕ) → is_called files 2 name ≡ bytes_eq (98 ∷ []) name
  called_second name =
      ap (λ found. option_map_or (λ (file : File). bytes_eq file.name name) found false)
      (get-insert_same (insert empty 1 first_file) 2 (second_file block))

  -- A tick takes the second function

  -- the request of the second function
  abbrev writes : Request
  writes = Write 3 (block ∷ [])

  -- it is next to be served
  abbrev before_tick : State
  before_tick = beside (at_work writes None)

  -- the second function's write is served, and ends
  abbrev write_ends : Reply
  write_ends = record { f = second; id = 1; end = end.Ok; done = 1; request = writes }

  -- so the tick ends
  abbrev tick_outcome : Outcome
  tick_outcome = outcome_of (happened.Served second 3 (Walk 0)) (Some write_ends)

  -- the first function has none of it
  pub tick_of_other : own_of_event 1 1 before_tick Tick tick_outcome (put 2 3 block ∷ []) ≡ []
  tick_of_other = refl

  -- nor the reply
  pub reply_of_other : replies_of 1 1 before_tick tick_outcome.reply ≡ []
  reply_of_other = refl

  -- the second has the tick
  pub tick_of_own : own_of_event 2 2 before_tick Tick tick_outcome (put 2 3 block ∷ []) ≡ ticked (happened.Served second 3 (Walk 0)) None false ∷ []
  tick_of_own = refl

  -- The host puts a block into the second file

  -- the command, and its answer
  abbrev put_command : HostCommand
  put_command = Put second_name 3 (block ∷ [])

  abbrev put_outcome : Outcome
  put_outcome = outcome_of (happened.Host said.Ok) None

  -- the first function has none of it
  pub put_of_other : own_of_event 1 1 before_tick (Host put_command) put_outcome (put 2 3 block ∷ []) ≡ []
  put_of_other = ap (λ called. cond called (map changed (host_changes 1 (file_at files 1) put_command)) []) (called_first second_name)

  -- what the put changes of the second file, which holds the block
  put_changes : host_changes 2 (file_at files 2) put_command ≡ put 2 3 block ∷ []
  put_changes =
      ap (λ found. host_changes 2 (unwrap_or found (record { name = []; length = 0; body = empty })) put_command)
      (get-insert_same (insert empty 1 first_file) 2 (second_file block))
      ∙ ap (λ found. holding 2 (cond (not (is_some found)) (3 ∷ []) []) ++ put 2 3 block ∷ []) (get-insert_same empty 3 block)

  -- the second has the change
  pub put_of_own : own_of_event 2 2 before_tick (Host put_command) put_outcome (put 2 3 block ∷ []) ≡ changed (put 2 3 block) ∷ []
  put_of_own =
      ap (λ called. cond called (map changed (host_changes 2 (file_at files 2) put_command)) []) (called_second second_name)
      ∙ ap (map changed) put_changes

  -- The second function waits for a block, and there is no space

  -- the request of the second function
  abbrev writes_past : Request
  writes_past = Write 4 (block ∷ [])

  -- it waits
  abbrev before_handling : State
  before_handling = beside (at_work writes_past (Some (record { v = 4; n = 1; kind = Unmapped })))

  -- its write ends without space
  abbrev no_space_ends : Reply
  no_space_ends = record { f = second; id = 1; end = end.NoSpace; done = 0; request = writes_past }

  -- so the handling ends
  abbrev handling_outcome : Outcome
  handling_outcome = outcome_of (happened.Handled second did.NoSpace) (Some no_space_ends)

  -- the first function has none of it
  pub handling_of_other : own_of_event 1 1 before_handling (Handle second) handling_outcome [] ≡ []
  handling_of_other = refl

  -- nor the reply
  pub no_space_of_other : replies_of 1 1 before_handling handling_outcome.reply ≡ []
  no_space_of_other = refl

  -- the second has the handling
  pub handling_of_own : own_of_event 2 2 before_handling (Handle second) handling_outcome [] ≡ handled did.NoSpace ∷ []
  handling_of_own = refl
