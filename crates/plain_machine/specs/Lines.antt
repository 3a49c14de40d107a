-- A trace as text.
use Rattle.std.specs.Prelude.{ℕ, List, [], ◌++◌, codes, length, Option, Some, None}
use Rattle.std.specs.List.{flat_map}
use Rattle.std.specs.Fmt.{decimal}
use Rattle.nesc_base.specs.declared.block.Block.{Block}
use Rattle.nesc_requests.specs.declared.host.HostAnswer.{HostAnswer}
use Rattle.nesc_requests.specs.declared.host.HostAnswer.TheVariants.{Ok, Exists, NoSlot, NoFile, Range, NoSpace}
use Rattle.nesc_requests.specs.declared.host.HostAnswer.TheVariants.{Media, Got, FunctionTaken, FileTaken}
use Rattle.nesc_requests.specs.declared.host.HostAnswer.TheVariants.{NotAttached, Queued, Attached, Regs}
use Rattle.nesc_base.specs.BlockText.{block_text}
use Rattle.nesc_base.specs.declared.numbers.FnNo.{FnNo}
use Rattle.nesc_requests.specs.declared.request.Kind.{Kind}
use Rattle.nesc_requests.specs.declared.request.Kind.TheVariants.{Pruned, Unmapped}
use Rattle.nesc_requests.specs.declared.word.Word.{Word}
use Rattle.nesc_requests.specs.declared.word.Word.TheVariants.{G, H}
use Rattle.plain_machine.specs.Groups.{EndTold, Group, Line, PathLine, ReplyLine, evicted, flushed, flushed_at}
use Rattle.plain_machine.specs.Groups.{full, handled, host, idle, media, missed, no_space, nothing_left, off}
use Rattle.plain_machine.specs.Groups.{ok, pruned, pruned_at, queued, range, restarted, served}
use Rattle.plain_machine.specs.declared.outcome.Handled.{Handled}
use Rattle.plain_machine.specs.declared.outcome.Handled.TheVariants as handling
use Rattle.plain_machine.specs.declared.outcome.How.{How}
use Rattle.plain_machine.specs.declared.outcome.How.TheVariants as how

-- the text of each block, with a space before it
abbrev pub block_words : List Block → List ℕ
block_words = flat_map (λ block. codes " " ++ block_text block)

-- the number of a function
abbrev pub function_text : FnNo → List ℕ
function_text f = decimal f.0

abbrev pub answer_text : HostAnswer → List ℕ
answer_text Ok = codes "ok"
answer_text Exists = codes "exists"
answer_text NoSlot = codes "noslot"
answer_text NoFile = codes "nofile"
answer_text Range = codes "range"
answer_text (NoSpace free needed) = codes "nospace " ++ decimal free ++ codes " " ++ decimal needed
answer_text Media = codes "media"
answer_text (Got blocks) = codes "data" ++ block_words blocks
answer_text FunctionTaken = codes "functiontaken"
answer_text FileTaken = codes "filetaken"
answer_text NotAttached = codes "notattached"
answer_text Queued = codes "queued"
answer_text Attached = codes "attached"
answer_text (Regs size block count kind pending) =
    codes "regs " ++ decimal size ++ codes " " ++ decimal block ++ codes " " ++ decimal count ++ codes " "
    ++ decimal kind ++ codes " " ++ decimal pending

abbrev pub how_text : How → List ℕ
how_text how.Hit = codes "hit"
how_text (how.Walk fetched) = codes "walk " ++ decimal fetched
how_text (how.Hole fetched) = codes "hole " ++ decimal fetched
how_text how.Range = codes "range"

abbrev pub kind_text : Kind → List ℕ
kind_text Pruned = codes "pruned"
kind_text Unmapped = codes "unmapped"

abbrev pub handled_text : Handled → List ℕ
handled_text handling.None = codes "none"
handled_text handling.Built = codes "built"
handled_text (handling.Held count) = codes "hold " ++ decimal count
handled_text handling.NoSpace = codes "nospace"

-- the blocks that a leaf covered, from the first to the first past it
abbrev pub leaf_text : Option (ℕ × ℕ) → List ℕ
leaf_text None = codes "none"
leaf_text (Some (from, to)) = decimal from ++ codes " " ++ decimal to

abbrev pub end_text : EndTold → List ℕ
end_text (ok done blocks) = codes "ok " ++ decimal done ++ block_words blocks
end_text (range done) = codes "range " ++ decimal done
end_text (no_space done) = codes "nospace " ++ decimal done
end_text (media done) = codes "media " ++ decimal done
end_text (flushed_at clock) = codes "flushed " ++ decimal clock

-- nothing is left to give, which is said of the host and of guests alone
abbrev pub end_line_text : Word → List ℕ
end_line_text H = codes "h end\n"
end_line_text (G f) = codes "g " ++ function_text f ++ codes " end\n"
end_line_text word = []

-- a line, with the line feed at its end
abbrev pub line_text : Line → List ℕ
line_text (nothing_left word) = end_line_text word
line_text (queued f id) = codes "g " ++ function_text f ++ codes " " ++ decimal id ++ codes "\n"
line_text (full f) = codes "g " ++ function_text f ++ codes " full\n"
line_text (off f) = codes "g " ++ function_text f ++ codes " off\n"
line_text idle = codes "t idle\n"
line_text (served f v how) =
    codes "t " ++ function_text f ++ codes " " ++ decimal v ++ codes " " ++ how_text how ++ codes "\n"
line_text (missed f v kind fetched) =
    codes "t " ++ function_text f ++ codes " " ++ decimal v ++ codes " miss " ++ kind_text kind ++ codes " "
    ++ decimal fetched ++ codes "\n"
line_text (host answer) = codes "h " ++ answer_text answer ++ codes "\n"
line_text (flushed f) = codes "t " ++ function_text f ++ codes " flush\n"
line_text (handled f done) = codes "i " ++ function_text f ++ codes " " ++ handled_text done ++ codes "\n"
line_text (pruned f) = codes "p " ++ function_text f ++ codes "\n"
line_text (pruned_at f leaf) = codes "p " ++ function_text f ++ codes " " ++ leaf_text leaf ++ codes "\n"
line_text evicted = codes "e\n"
line_text restarted = codes "x\n"

-- the clock of a commit
abbrev pub commit_text : Option ℕ → List ℕ
commit_text None = []
commit_text (Some clock) = codes "c " ++ decimal clock ++ codes "\n"

-- a tree that was given up
abbrev pub drop_text : FnNo → List ℕ
drop_text f = codes "d " ++ function_text f ++ codes "\n"

abbrev pub path_text : Option PathLine → List ℕ
path_text None = []
path_text (Some path) =
    codes "b " ++ function_text path.f ++ codes " " ++ decimal path.from ++ codes " " ++ decimal path.to ++ codes " "
    ++ decimal path.nodes ++ codes "\n"

abbrev pub reply_text : Option ReplyLine → List ℕ
reply_text None = []
reply_text (Some reply) = codes "r " ++ function_text reply.f ++ codes " " ++ decimal reply.id ++ codes " "
    ++ end_text reply.end ++ codes "\n"

-- the lines of one word
abbrev pub group_text : Group → List ℕ
group_text group =
    commit_text group.before ++ line_text group.line ++ flat_map drop_text group.drops ++ path_text group.built
    ++ commit_text group.after
    ++ reply_text group.reply

-- the last line, which says how many words there were
abbrev pub done_text : ℕ → List ℕ
done_text steps = codes "done " ++ decimal steps ++ codes "\n"

-- the lines of words, one after another
abbrev pub groups_text : List Group → List ℕ
groups_text = flat_map group_text

-- the whole trace, which has a group of lines for each word
abbrev pub trace_text : List Group → List ℕ
trace_text groups = groups_text groups ++ done_text (length groups)
