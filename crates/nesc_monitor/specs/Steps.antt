-- The steps of a run over a disk, and what is told of them.
use Rattle.std.specs.Prelude.{◌≡◌, ◌≢◌, ◌⊎◌, ℕ, ◌+◌, ◌≤◌, ◌||◌, true, false, Bool, List}
use Rattle.std.specs.Prelude.{[], ◌∷◌, ◌++◌, length, Option, Some, None, Result, Ok, Err}
use Rattle.std.specs.List.{AllByRecursion, count_by}
use Rattle.nesc_base.specs.Disk.{CouldLeave, Known}
use Rattle.nesc_base.specs.Fault.{Rose, RoseBy}
use Rattle.nesc_base.specs.Sink.{Appends, Grows}
use Rattle.nesc_base.specs.declared.block.Block.{Block}
use Rattle.nesc_base.specs.declared.geometry.Geometry.{Geometry}
use Rattle.nesc_base.specs.Files.{Files}
use Rattle.nesc_base.specs.Places.{Places}
use Rattle.nesc_requests.specs.Buffers.{Spare}
use Rattle.nesc_requests.specs.Script.{MayAsk, Script, requests_of, with_numbered}
use Rattle.nesc_requests.specs.declared.event.Event.{Event}
use Rattle.nesc_requests.specs.declared.event.Event.TheVariants.{Restart, Submit}
use Rattle.nesc_requests.specs.declared.host.HostAnswer.TheVariants as said
use Rattle.nesc_requests.specs.declared.request.Request.{Request}
use Rattle.nesc_requests.specs.declared.word.Word.{Word}
use Rattle.nesc_requests.specs.declared.word.Word.TheVariants.{G}
use Rattle.plain_machine.specs.declared.outcome.Answer.{Answer}
use Rattle.plain_machine.specs.declared.outcome.Answer.TheVariants as answer
use Rattle.plain_machine.specs.Draws.{event_of}
use Rattle.plain_machine.specs.Groups.{EndTold, EndTold as ended, Group, Line, Line as line, ReplyLine}
use Rattle.plain_machine.specs.Lines.{done_text, groups_text, trace_text}
use Rattle.plain_machine.specs.Placing.{Placed}
use Rattle.plain_machine.specs.State.{State}
use Rattle.plain_machine.specs.Traces.{IsTrace}
use Rattle.plain_machine.specs.declared.setting.Setting.{Setting}
use Rattle.script_lang.specs.Left.{Left, buffers_of, is_out}
use Rattle.text_kit.specs.Buffered.{shown, sink_of}
use Rattle.text_kit.specs.declared.buffered.Buffered.{Buffered}
use Rattle.text_kit.specs.Known.{AppendsPrefix, Keeps}
use Rattle.nesc_session.specs.Buffers.{HasNoRequest, buffers_in}
use Rattle.nesc_session.specs.Resting.{IsIn, Rests}
use Rattle.nesc_session.specs.Stepping.{AsksForCommit, CommitsFor, OpensAs}
use Rattle.nesc_session.specs.declared.fault.StepFault.TheVariants as step
use Rattle.nesc_session.specs.declared.session.Session.{Session}
use Rattle.nesc_monitor.specs.declared.fault.RunFault.{RunFault}
use Rattle.nesc_monitor.specs.declared.fault.RunFault.TheVariants as run

-- What is drawn

-- a request that was drawn was taken of its guest, and can be given back
abbrev pub MayGiveBack : Left → Event → Type 0
MayGiveBack left (Submit f request) = is_out left f.0 ≡ true
MayGiveBack left event = Unit {0}

-- a request that comes back was taken of the guest whose word this is
abbrev pub ComesBack : Left → Word → Answer → Type 0
ComesBack left (G f) (answer.Off request) = (is_out left f.0 ≡ true) × MayAsk request
ComesBack left (G f) (answer.Full request) = (is_out left f.0 ≡ true) × MayAsk request
ComesBack left word other = HasNoRequest other

-- the request is the guest's next
abbrev pub with_next : Script → ℕ → Request → Script
with_next script f request = record script { guests = with_numbered script.guests f (request ∷ requests_of script f) }

-- one that came back is
abbrev pub with_back : Script → Word → Answer → Script
with_back script (G f) (answer.Off request) = with_next script f.0 request
with_back script (G f) (answer.Full request) = with_next script f.0 request
with_back script word other = script

-- A run goes on

-- each buffer is spare, goes along with a request that waits, or is kept with one that came back
pub record HasBuffers (commands : Left) (spare : Spare) (session : Session) : Type 0 where
  pub machine : session.setting.machine ≡ commands.script.machine
  pub few : commands.kept ≤ commands.script.machine.functions
  pub all : commands.kept + buffers_in session spare ≡ buffers_of commands.script.machine
  pub room : buffers_of commands.script.machine ≤ spare.room

-- and the session goes with its disk
pub record IsUnderWay (session : Session) (commands : Left) (spare : Spare) (disk : Known) : Type 0 where
  pub rests : Rests session disk
  pub buffers : HasBuffers commands spare session

-- the step for the event leaves what the disk keeps: it makes no commit, and is no restart
abbrev pub ChangesNothing : Session → Event → Type 0
ChangesNothing session event = (CommitsFor session event → ⊥) × (event ≢ Restart)

-- What is told

-- What a sink that gathers has handed on, and what that is with all that it gathered, where the sink behind it tells.
pub record Out : Type 0 where
  pub handed : Option (List ℕ)
  pub shown : Option (List ℕ)

abbrev pub out_of : {K : Type 0} → (K → Option (List ℕ)) → Buffered K → Out
out_of taken buffered = record { handed = taken (sink_of buffered); shown = shown taken buffered }

-- these bytes came behind those that were there, and maybe more
abbrev pub HandsOn : Option (List ℕ) → Option (List ℕ) → List ℕ → Type 0
HandsOn None new bytes = Unit {0}
HandsOn (Some old) new bytes = (more : List ℕ) × (new ≡ Some (old ++ bytes ++ more))

-- the lines tell neither a commit nor a restart, which alone change what the disk keeps
pub record IsQuiet (group : Group) : Type 0 where
  pub before : group.before ≡ None
  pub after : group.after ≡ None
  pub goes_on : ¬ (group.line ≡ line.restarted)

-- so it is for all but the first of these
abbrev pub AreQuietBehind : List Group → Type 0
AreQuietBehind [] = Unit {0}
AreQuietBehind (group ∷ groups) = AllByRecursion IsQuiet groups

-- what was told before the word was handed on first, if its step may change what the disk keeps
abbrev pub IsInTime : Out → Group → Out → Type 0
IsInTime old group new = IsQuiet group ⊎ Grows old.shown new.handed

-- how often the lines tell that the disk could not be read

abbrev pub is_failed_line : Line → Bool
is_failed_line (line.host said.Media) = true
is_failed_line other = false

abbrev pub is_failed_told : EndTold → Bool
is_failed_told (ended.media done) = true
is_failed_told other = false

abbrev pub is_failed_reply : Option ReplyLine → Bool
is_failed_reply None = false
is_failed_reply (Some reply) = is_failed_told reply.end

abbrev pub media_in : List Group → ℕ
media_in = count_by (λ group. is_failed_line group.line || is_failed_reply group.reply)

-- One word

-- The word was taken: from the state in which the session was it is in the next, and its lines are told in this way.
-- The law of misses asks nothing of places yet.
pub record TellsWordBy (takes : Option (List ℕ) → Option (List ℕ) → List ℕ → Type 0) (setting : Setting) (old : State)
    (script : Script) (word : Word)
    (session : Session) (before disk : Known) (rest : Script) (out told : Out) : Type 0 where
  pub group : Group
  pub next : State
  pub moved : Placed
  pub kept : List Block
  pub trace : (places : Places) → IsTrace setting places old script (word ∷ []) (group ∷ []) next rest
  pub is_in : IsIn session disk kept next moved
  pub media : RoseBy (media_in (group ∷ [])) before.faults disk.faults
  pub in_time : IsInTime out group told
  pub tells : takes out.shown told.shown (groups_text (group ∷ []))

-- The step was not taken, since the sink failed before it: nothing is told of it, and the session is in the state in
-- which it was.
pub record LeavesWord (old : State) (placed : Placed) (kept : List Block) (session : Session) (disk : Known)
    (out told : Out) : Type 0 where
  pub is_in : IsIn session disk kept old placed
  pub same : Keeps out.shown told.shown

-- The disk failed in the step, which was to commit or to restart: all that was told before was handed on, and a stop
-- leaves the files as they were kept or as they were.
pub record FailsWord (setting : Setting) (old : State) (script : Script) (word : Word) (before disk : Known)
    (out told : Out) : Type 0 where
  pub event : Event
  pub draws : event_of script word ≡ Some event
  pub asks : AsksForCommit setting old event
  pub handed : Keeps out.shown told.handed
  pub rose : Rose before.faults disk.faults
  pub stops : (image : List Block) → CouldLeave disk image
      → OpensAs setting.geometry old.kept image ⊎ OpensAs setting.geometry old.now image

abbrev pub ComesOfWord : Setting → State → Placed → List Block → Script → Word → Session → Known → Known → Script → Out
    → Out → Result (Unit {0}) RunFault → Type 0
ComesOfWord setting old placed kept script word session before disk rest out told (Ok done) =
    TellsWordBy Appends setting old script word session before disk rest out told
ComesOfWord setting old placed kept script word session before disk rest out told (Err (run.Write fault)) =
    LeavesWord old placed kept session disk out told
    ⊎ TellsWordBy AppendsPrefix setting old script word session before disk rest out told
ComesOfWord setting old placed kept script word session before disk rest out told (Err (run.Step (step.Disk fault))) =
    FailsWord setting old script word before disk out told
ComesOfWord setting old placed kept script word session before disk rest out told (Err (run.Step (step.Image fault))) =
    ⊥

-- What a run comes to from a state on, by what a disk and a sink were before and are after

-- it opens as these files, and so does whatever a stop leaves now
pub record KeepsAs (geometry : Geometry) (files : Files) (disk : Known) : Type 0 where
  pub reads : OpensAs geometry files disk.contents
  pub stops : (image : List Block) → CouldLeave disk image → OpensAs geometry files image

-- All words were taken, and the sink took their trace. The disk has kept the files that were kept last.
pub record RanToEnd (setting : Setting) (places : Places) (old : State) (script : Script) (words : List Word)
    (before after : Known) (taken told : Option (List ℕ)) : Type 0 where
  pub groups : List Group
  pub end : State
  pub rest : Script
  pub trace : IsTrace setting places old script words groups end rest
  pub tells : Appends taken told (trace_text groups)
  pub keeps : KeepsAs setting.geometry end.kept after
  pub media : RoseBy (media_in groups) before.faults after.faults

-- the last line, once all words were taken
abbrev pub IsLast : List Word → List Word → List ℕ → Type 0
IsLast words left last = (last ≡ []) ⊎ ((left ≡ []) × (last ≡ done_text (length words)))

-- Some of the words were taken, and the sink took a front of their lines: all lines of the early ones, and behind these
-- at most one word has changed what the disk keeps.
pub record RanCutShort (setting : Setting) (places : Places) (old : State) (script : Script) (words : List Word)
    (before after : Known) (taken told : Option (List ℕ)) : Type 0 where
  pub done : List Word
  pub left : List Word
  pub early : List Group
  pub more : List Group
  pub end : State
  pub rest : Script
  pub last : List ℕ
  pub whole : done ++ left ≡ words
  pub trace : IsTrace setting places old script done (early ++ more) end rest
  pub quiet : AreQuietBehind more
  pub is_last : IsLast words left last
  pub tells : AppendsPrefix taken told (groups_text (early ++ more) ++ last)
  pub tells_early : HandsOn taken told (groups_text early)
  pub keeps : KeepsAs setting.geometry end.kept after
  pub media : RoseBy (media_in (early ++ more)) before.faults after.faults

-- Some of the words were taken, and the sink took all of their lines. The step of the next one makes a commit or is a
-- restart, and the disk failed in it.
pub record RanToFault (setting : Setting) (places : Places) (old : State) (script : Script) (words : List Word)
    (before after : Known) (taken told : Option (List ℕ)) : Type 0 where
  pub done : List Word
  pub word : Word
  pub left : List Word
  pub groups : List Group
  pub end : State
  pub rest : Script
  pub event : Event
  pub whole : done ++ word ∷ left ≡ words
  pub trace : IsTrace setting places old script done groups end rest
  pub draws : event_of rest word ≡ Some event
  pub asks : AsksForCommit setting end event
  pub tells : Appends taken told (groups_text groups)
  pub stops : (image : List Block) → CouldLeave after image
      → OpensAs setting.geometry end.kept image ⊎ OpensAs setting.geometry end.now image
  pub media : RoseBy (media_in groups + 1) before.faults after.faults

abbrev pub RunsBy : Result (Unit {0}) RunFault → Setting → Places → State → Script → List Word → Known → Known
    → Option (List ℕ) → Option (List ℕ) → Type 0
RunsBy (Ok done) setting places old script words before after taken told =
    RanToEnd setting places old script words before after taken told
RunsBy (Err (run.Write fault)) setting places old script words before after taken told =
    RanCutShort setting places old script words before after taken told
RunsBy (Err (run.Step (step.Disk fault))) setting places old script words before after taken told =
    RanToFault setting places old script words before after taken told
RunsBy (Err (run.Step (step.Image fault))) setting places old script words before after taken told = ⊥
