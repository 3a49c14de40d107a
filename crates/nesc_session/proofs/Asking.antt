-- Where the session makes a commit for an event, each step of the plain machine for the event makes one.
use Rattle.std.proofs.Common.{◌≡◌, ◌⊎◌, ℕ, ◌+◌, ◌<◌, Bool, true, false, List, [], ◌∷◌, Option, None, Some, inl, inr, refl, sym, ap, subst, ◌∙◌, arith}
use Rattle.std.specs.Prelude.{◌||◌, Err, IfErr, Ok, Result, is_some, nat_lt}
use Rattle.std.specs.Option.{option_map_or}
use Rattle.std.proofs.lemmas.Bool.{false≢true}
use Rattle.std.proofs.lemmas.Bool.Decides.{nat_tests}
use Rattle.std.proofs.lemmas.Option.{none-some, same_Some}
use Rattle.nesc_base.specs.declared.block.Block.{Block}
use Rattle.nesc_base.specs.declared.numbers.FnNo.{FnNo}
use Rattle.nesc_base.specs.Disk.{Known}
use Rattle.nesc_base.specs.Files.{File, Files, file_at}
use Rattle.nesc_requests.specs.Requests.{is_flush}
use Rattle.nesc_requests.specs.declared.event.Event.{Event}
use Rattle.nesc_requests.specs.declared.event.Event.TheVariants.{Evict, Handle, Host, Prune, PruneAt, Restart, Submit, Tick}
use Rattle.nesc_requests.specs.declared.host.HostCommand.TheVariants.{Sync}
use Rattle.nesc_requests.specs.declared.request.Kind.{Kind}
use Rattle.nesc_requests.specs.declared.request.Kind.TheVariants.{Pruned, Unmapped}
use Rattle.nesc_requests.specs.declared.request.Reply.{Reply}
use Rattle.nesc_requests.specs.declared.request.Request.{Request}
use Rattle.nesc_requests.specs.declared.request.Request.TheVariants.{Flush, Read, Write}
use Rattle.file_model.specs.Files.{Change}
use Rattle.plain_machine.specs.Functions.{Attached, Function, function_at, next_runnable, queue_of}
use Rattle.plain_machine.specs.Machine.{Does, Step, need}
use Rattle.plain_machine.specs.Placing.{Placed}
use Rattle.plain_machine.specs.State.{State, committed}
use Rattle.plain_machine.specs.Ticks.{MayWait, Reaches, Serves, Ticks, Turn, TurnsTo, is_read}
use Rattle.plain_machine.specs.declared.outcome.Answer.{Answer}
use Rattle.plain_machine.specs.declared.outcome.Answer.TheVariants.{Flushed, Missed, Served}
use Rattle.plain_machine.specs.declared.outcome.How.{How}
use Rattle.plain_machine.specs.declared.outcome.How.TheVariants.{Hit, Hole, Range, Walk}
use Rattle.plain_machine.specs.declared.outcome.Outcome.{Outcome}
use Rattle.plain_machine.specs.declared.setting.Setting.{Setting}
use Rattle.nesc_session.specs.Requests.{starts_with_flush}
use Rattle.nesc_session.specs.Resting.{IsSession, Stands, functions_in}
use Rattle.nesc_session.specs.Stepping.{AsksForCommit, AsksOnDisk, KeepsFor}
use Rattle.nesc_session.specs.declared.session.Session.{Session}
use Rattle.nesc_session.proofs.SessionFunctions.{as_many, queue_in}
use Rattle.nesc_session.proofs.Turns.{next_ready}

either : (one other : Bool) → (one ≡ true) ⊎ (other ≡ true) → one || other ≡ true
either true other is = refl
either false true is = refl
either false false (inl is) = absurd (false≢true is)
either false false (inr is) = absurd (false≢true is)

-- so it is for each event, where each of its steps tells of a commit
asks_of : (setting : Setting) (state : State) (event : Event)
    → ((changes : List Change) (outcome : Outcome) (next : State) → Step setting state event changes outcome next → (is_some outcome.before ≡ true) ⊎ (is_some outcome.after ≡ true))
    → AsksForCommit setting state event
asks_of setting state (Submit f request) tells = λ changes outcome next step. either _ _ (tells changes outcome next step)
asks_of setting state Tick tells = λ changes outcome next step. either _ _ (tells changes outcome next step)
asks_of setting state (Host command) tells = λ changes outcome next step. either _ _ (tells changes outcome next step)
asks_of setting state (Handle f) tells = λ changes outcome next step. either _ _ (tells changes outcome next step)
asks_of setting state (Prune f) tells = λ changes outcome next step. either _ _ (tells changes outcome next step)
asks_of setting state (PruneAt f v) tells = λ changes outcome next step. either _ _ (tells changes outcome next step)
asks_of setting state Evict tells = λ changes outcome next step. either _ _ (tells changes outcome next step)
asks_of setting state Restart tells = tt

-- Before the step

module _ (setting : Setting) (state : State) (event : Event) (n : ℕ)
    (needs : (changes : List Change) (outcome : Outcome) (next : State) → Does setting state event changes outcome next → n ≡ need state event changes) (short : setting.geometry.slack < state.count + n) where
  due : (changes : List Change) (outcome : Outcome) (next : State) → Step setting state event changes outcome next → (before : Option ℕ) → outcome.before ≡ before → is_some outcome.before ≡ true
  due changes outcome next step (Some clock) is = ap is_some is
  due changes outcome next step None is =
      let does : Does setting state event changes outcome next = subst (λ (before : Option ℕ). Does setting (committed before state) event changes outcome next) is step.does in
      let many : n ≡ need state event changes = needs changes outcome next does in
      let over : nat_lt setting.geometry.slack (state.count + need state event changes) ≡ true = let m = ap (λ k. state.count + k) many in grind (arith, nat_tests) in
      step.due ∙ over

  pub asks_before : AsksForCommit setting state event
  asks_before = asks_of setting state event (λ changes outcome next step. inl (due changes outcome next step outcome.before refl))

-- In the step

no_flush_is_reached : (file : File) (v done : ℕ) (request : Request) (how : How) (after : Request) → is_flush request ≡ true → Reaches file v done request how after → ⊥
no_flush_is_reached file v done (Read at into) how after flush reaches = false≢true flush
no_flush_is_reached file v done (Write at from) how after flush reaches = false≢true flush
no_flush_is_reached file v done Flush Hit after flush reaches = reaches
no_flush_is_reached file v done Flush (Walk fetched) after flush reaches = reaches
no_flush_is_reached file v done Flush (Hole fetched) after flush reaches = reaches
no_flush_is_reached file v done Flush Range after flush reaches = reaches

no_flush_is_read : (request : Request) → is_flush request ≡ true → is_read request ≡ true → ⊥
no_flush_is_read (Read at into) flush read = false≢true flush
no_flush_is_read (Write at from) flush read = false≢true flush
no_flush_is_read Flush flush read = false≢true read

no_flush_waits : (file : File) (v : ℕ) (request : Request) (kind : Kind) → is_flush request ≡ true → MayWait file v request kind → ⊥
no_flush_waits file v request Pruned flush waits = false≢true (sym waits ∙ flush)
no_flush_waits file v (Read at into) Unmapped flush waits = false≢true flush
no_flush_waits file v (Write at from) Unmapped flush waits = false≢true flush
no_flush_waits file v Flush Unmapped flush waits = false≢true waits.0

turn_flushes : (file : File) (turn : Turn) (answer : Answer) (after : Option ℕ) (reply : Option Reply) (changes : List Change) (later : Attached) → is_flush turn.head.request ≡ true
    → TurnsTo file turn answer after reply changes later → is_some after ≡ true
turn_flushes file turn (Flushed f) after reply changes later flush turns = ap is_some turns.1.commits
turn_flushes file turn (Served f v Range) after reply changes later flush turns = absurd (false≢true (sym turns.2.for_blocks ∙ flush))
turn_flushes file turn (Served f v how) after reply changes later flush turns = elim turns.2 [
  | inl serves ↦ absurd (no_flush_is_reached file _ _ turn.head.request how serves.request flush serves.reaches)
  | inr fails ↦ absurd (no_flush_is_read turn.head.request flush fails.read)
]
turn_flushes file turn (Missed f miss fetched) after reply changes later flush turns = absurd (no_flush_waits file _ turn.head.request miss.kind flush turns.1.why)
turn_flushes file turn other after reply changes later flush turns = absurd turns

serves_flush : (files : Files) (f : FnNo) (old : Function) (outcome : Outcome) (changes : List Change) (new : Function) → starts_with_flush (queue_of old) ≡ true
    → Serves files f old outcome changes new → is_some outcome.after ≡ true
serves_flush files f old outcome changes new flush serves =
    let queue : queue_of old ≡ serves.turn.head ∷ serves.turn.rest = ap (λ o. option_map_or (λ (attached : Attached). attached.queue) o []) serves.is.on ∙ serves.is.queue in
    turn_flushes (file_at files serves.turn.attached.file) serves.turn outcome.answer outcome.after outcome.reply changes serves.later (sym (ap starts_with_flush queue) ∙ flush) serves.turns

same_functions : (before : Option ℕ) (state : State) → ((committed before state).functions ≡ state.functions) × ((committed before state).last ≡ state.last)
same_functions None state = (refl, refl)
same_functions (Some clock) state = (refl, refl)

-- the function that is next has a flush first, or the host asks for a `sync`
module _ (session : Session) (sound : IsSession session) (kept : List Block) (state : State) (placed : Placed) (stands : Stands session kept state placed) where
  module _ (keeps : KeepsFor session Tick) (before : Option ℕ) where
    abbrev behind : State
    behind = committed before state

    functions_behind : behind.functions ≡ functions_in session
    functions_behind = (same_functions before state).0 ∙ stands.functions

    next_behind : next_runnable behind.functions behind.last ≡ Some keeps.0
    next_behind = (λ i. next_runnable (functions_behind i) (((same_functions before state).1 ∙ stands.last) i)) ∙ keeps.1

    flush_behind : starts_with_flush (queue_of (function_at behind.functions keeps.0)) ≡ true
    flush_behind =
        let ready = next_ready session.attachments session.requests.items (as_many session sound) sound.idle session.last keeps.0 keeps.1 in
        ap (λ all. starts_with_flush (queue_of (function_at all keeps.0))) functions_behind
        ∙ ap starts_with_flush (queue_in session sound keeps.0 ready.0 ready.1) ∙ keeps.2 ready.0 ready.1

    tick_flushes : (outcome : Outcome) (changes : List Change) (functions : List Function) (last : ℕ) → Ticks behind outcome changes functions last → is_some outcome.after ≡ true
    tick_flushes outcome changes functions last (inl idle) = absurd (none-some keeps.0 (sym idle.none ∙ next_behind))
    tick_flushes outcome changes functions last (inr turn) =
        let same : keeps.0 ≡ turn.f.0 = same_Some keeps.0 turn.f.0 (sym next_behind ∙ turn.next) in
        serves_flush behind.now turn.f _ outcome changes turn.serves.after (ap (λ f. starts_with_flush (queue_of (function_at behind.functions f))) (sym same) ∙ flush_behind) turn.serves.becomes

  pub asks_after : (event : Event) → KeepsFor session event → AsksForCommit session.setting state event
  asks_after (Submit f request) keeps = absurd keeps
  asks_after Tick keeps = asks_of session.setting state Tick (λ changes outcome next step. inr (tick_flushes keeps outcome.before outcome changes step.does.functions step.does.last step.does.comes))
  asks_after (Host Sync) keeps = asks_of session.setting state (Host Sync) (λ changes outcome next step. inr step.does.comes.commits)
  asks_after (Host command) keeps = absurd keeps
  asks_after (Handle f) keeps = absurd keeps
  asks_after (Prune f) keeps = absurd keeps
  asks_after (PruneAt f v) keeps = absurd keeps
  asks_after Evict keeps = absurd keeps
  asks_after Restart keeps = absurd keeps

-- Over a disk

if_err : {T F : Type 0} (P : Type 0) (result : Result T F) → P → IfErr result (λ _. P)
if_err P (Ok value) is = tt
if_err P (Err fault) is = is

module _ {T F : Type 0} (old : Session) (disk : Known) (event : Event) (result : Result T F) where
  -- the commit that comes before the step failed
  pub asked_before : (n : ℕ)
      → ((kept : List Block) (state : State) (placed : Placed) → Stands old kept state placed
      → (changes : List Change) (outcome : Outcome) (next : State) → Does old.setting state event changes outcome next → n ≡ need state event changes)
      → old.setting.geometry.slack < old.journal.count + n → IfErr result (λ _. AsksOnDisk old disk event)
  asked_before n needs short =
      if_err _ result (λ tells kept state placed is. asks_before old.setting state event n (needs kept state placed is.stands) (omega (arith, short, is.stands.count)))

  -- or the one in it, or the restart
  pub asked_after : IsSession old → KeepsFor old event ⊎ (event ≡ Restart) → IfErr result (λ _. AsksOnDisk old disk event)
  asked_after sound cause = if_err _ result (λ tells kept state placed is. elim cause [
    | inl keeps ↦ asks_after old sound kept state placed is.stands event keeps
    | inr restarts ↦ subst (λ (one : Event). AsksForCommit old.setting state one) (sym restarts) tt
  ])
