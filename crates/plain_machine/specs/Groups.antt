-- What a trace says of each word.
use Rattle.std.specs.Prelude.{ℕ, ◌-◌, ◌==◌, List, [], filter, map, Option, Some, None, option_map}
use Rattle.std.specs.List.{range_with_len}
use Rattle.std.specs.Int.{bit_at}
use Rattle.nesc_base.specs.declared.block.Block.{Block}
use Rattle.nesc_base.specs.declared.numbers.FnNo.{FnNo}
use Rattle.nesc_requests.specs.Machine.{most_functions}
use Rattle.nesc_requests.specs.declared.host.HostAnswer.{HostAnswer}
use Rattle.nesc_requests.specs.declared.request.End.{End}
use Rattle.nesc_requests.specs.declared.request.End.TheVariants as end
use Rattle.nesc_requests.specs.declared.request.Kind.{Kind}
use Rattle.nesc_requests.specs.declared.request.Reply.{Reply}
use Rattle.nesc_requests.specs.declared.request.Request.{Request}
use Rattle.nesc_requests.specs.declared.request.Request.TheVariants.{Read, Write, Flush}
use Rattle.nesc_requests.specs.declared.word.Word.{Word}
use Rattle.nesc_requests.specs.declared.word.Word.TheVariants.{G}
use Rattle.plain_machine.specs.Draws.{WordTaken}
use Rattle.plain_machine.specs.Machine.{StepTaken}
use Rattle.plain_machine.specs.declared.outcome.Answer.{Answer}
use Rattle.plain_machine.specs.declared.outcome.Answer.TheVariants as answer
use Rattle.plain_machine.specs.declared.outcome.Built.{Built}
use Rattle.plain_machine.specs.declared.outcome.Handled.{Handled}
use Rattle.plain_machine.specs.declared.outcome.How.{How}
use Rattle.plain_machine.specs.declared.outcome.Outcome.{Outcome}

-- the main line of a step, which says what happened
pub data Line : Type 0 where
  nothing_left : Word → Line
  queued : (f : FnNo) (id : ℕ) → Line
  full : (f : FnNo) → Line
  off : (f : FnNo) → Line
  idle : Line
  served : (f : FnNo) (v : ℕ) (how : How) → Line
  missed : (f : FnNo) (v : ℕ) (kind : Kind) (fetched : ℕ) → Line
  host : HostAnswer → Line
  flushed : (f : FnNo) → Line
  handled : (f : FnNo) → Handled → Line
  pruned : (f : FnNo) → Line
  pruned_at : (f : FnNo) (leaf : Option (ℕ × ℕ)) → Line
  evicted : Line
  restarted : Line

-- how a request ended: with how many blocks done, and for a read that is done with what was read; or at which clock
pub data EndTold : Type 0 where
  ok : (done : ℕ) (blocks : List Block) → EndTold
  range : (done : ℕ) → EndTold
  no_space : (done : ℕ) → EndTold
  media : (done : ℕ) → EndTold
  flushed_at : (clock : ℕ) → EndTold

-- what a guest is told
pub record ReplyLine : Type 0 where
  pub f : FnNo
  pub id : ℕ
  pub end : EndTold

-- a path of a tree that was built: its function, the blocks that its leaf covers, from the first to the first past it,
-- and how many nodes it has that were not there
pub record PathLine : Type 0 where
  pub f : FnNo
  pub from : ℕ
  pub to : ℕ
  pub nodes : ℕ

-- the lines of one word: the clock of a commit before it, what happened, the functions whose trees were given up, in
-- rising order, the path that was built, the clock of a flush or a sync, and the reply
pub record Group : Type 0 where
  pub before : Option ℕ
  pub line : Line
  pub drops : List FnNo
  pub built : Option PathLine
  pub after : Option ℕ
  pub reply : Option ReplyLine

-- What an outcome says

-- the function of a guest's word; 0 for any other word, which has no such line
abbrev pub guest_of : Word → FnNo
guest_of (G f) = f
guest_of word = record { 0 = 0 }

abbrev pub line_of : Word → Answer → Line
line_of word (answer.Queued id) = queued (guest_of word) id
line_of word (answer.Full request) = full (guest_of word)
line_of word (answer.Off request) = off (guest_of word)
line_of word answer.Idle = idle
line_of word (answer.Served f v how) = served f v how
line_of word (answer.Flushed f) = flushed f
line_of word (answer.Missed f miss fetched) = missed f miss.v miss.kind fetched
line_of word (answer.Host answer) = host answer
line_of word (answer.Handled f done) = handled f done
line_of word (answer.Pruned f) = pruned f
line_of word (answer.PrunedAt f leaf) = pruned_at f leaf
line_of word answer.Evicted = evicted
line_of word answer.Restarted = restarted

-- how the request is said to have ended, and what was read, where it is a read
abbrev pub end_told : End → ℕ → Request → EndTold
end_told end.Ok done (Read v into) = ok done into
end_told end.Ok done (Write v from) = ok done []
end_told end.Ok done Flush = ok done []
end_told end.Range done request = range done
end_told end.NoSpace done request = no_space done
end_told end.Media done request = media done
end_told (end.Flushed clock) done request = flushed_at clock

abbrev pub reply_line_of : Reply → ReplyLine
reply_line_of reply = record { f = reply.f; id = reply.id; end = end_told reply.end reply.done reply.request }

-- the functions whose bit is set, in rising order, where the lowest is for the first
abbrev pub functions_in : ℕ → List FnNo
functions_in bits =
    map (λ f. record { 0 = f }) (filter (λ f. bit_at bits (f - 1) == 1) (range_with_len 1 most_functions))

-- a path is built where a function is handled
abbrev pub path_line_of : Answer → Built → Option PathLine
path_line_of (answer.Handled f _) built = Some (record { f = f; from = built.from; to = built.to; nodes = built.nodes })
path_line_of answer built = None

abbrev pub path_told : Answer → Option Built → Option PathLine
path_told answer None = None
path_told answer (Some built) = path_line_of answer built

abbrev pub group_of : Word → Outcome → Group
group_of word outcome = record {
  before = outcome.before;
  line = line_of word outcome.answer;
  drops = functions_in outcome.drops;
  built = path_told outcome.answer outcome.built;
  after = outcome.after;
  reply = option_map reply_line_of outcome.reply;
}

-- nothing was left to give
abbrev pub end_group : Word → Group
end_group word =
    record { before = None; line = nothing_left word; drops = []; built = None; after = None; reply = None }

-- the group of a word: of the step that it made, or that nothing was left
abbrev pub told_of : Word → Option StepTaken → Group
told_of word None = end_group word
told_of word (Some step) = group_of word step.outcome

abbrev pub told : WordTaken → Group
told taken = told_of taken.word taken.step
