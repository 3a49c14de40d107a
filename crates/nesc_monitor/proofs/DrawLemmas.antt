-- What a word draws, what comes back, and what is left then.
use Rattle.std.proofs.Common.{◌≡◌, ℕ, List, [], ◌∷◌, true, drop, slice_get, Some, option_map, refl, ap, ◌∙◌, subst}
use Rattle.std.proofs.lemmas.Option.{same_Some}
use Rattle.nesc_base.specs.declared.numbers.FnNo.{FnNo}
use Rattle.nesc_requests.specs.Script.{MayAsk, Script, requests_of, with_numbered}
use Rattle.nesc_requests.specs.declared.event.Event.{Event}
use Rattle.nesc_requests.specs.declared.event.Event.TheVariants.{Submit, Tick, Host, Handle, Prune, PruneAt, Evict, Restart}
use Rattle.nesc_requests.specs.declared.host.HostCommand.{HostCommand}
use Rattle.nesc_requests.specs.declared.request.Request.{Request}
use Rattle.nesc_requests.specs.declared.word.Word.{Word}
use Rattle.nesc_requests.specs.declared.word.Word.TheVariants.{T, G, H, I, P, PAt, E, X}
use Rattle.file_model.specs.Files.{Change}
use Rattle.plain_machine.specs.Draws.{event_of, left_after, without_drawn}
use Rattle.plain_machine.specs.Functions.{Function}
use Rattle.plain_machine.specs.Machine.{Step}
use Rattle.plain_machine.specs.State.{State}
use Rattle.plain_machine.specs.Submissions.{Submits}
use Rattle.plain_machine.specs.declared.outcome.Answer.{Answer}
use Rattle.plain_machine.specs.declared.outcome.Answer.TheVariants as answer
use Rattle.plain_machine.specs.declared.outcome.Outcome.{Outcome}
use Rattle.plain_machine.specs.declared.setting.Setting.{Setting}
use Rattle.script_lang.specs.Left.{Left, is_out}
use Rattle.script_lang.proofs.LeftLemmas.{script-with_back}
use Rattle.nesc_session.specs.Buffers.{HandsBack, HasNoRequest}
use Rattle.nesc_session.specs.Stepping.{MayStep}
use Rattle.nesc_monitor.specs.Steps.{ComesBack, MayGiveBack, with_back, with_next}

-- the word of an event
abbrev pub word_of : Event → Word
word_of (Submit f request) = G f
word_of Tick = T
word_of (Host command) = H
word_of (Handle f) = I f
word_of (Prune f) = P f
word_of (PruneAt f v) = PAt f v
word_of Evict = E
word_of Restart = X

-- a guest's request was its next
abbrev IsNext : Script → Event → Type 0
IsNext script (Submit f request) = (left : List Request) × (requests_of script f.0 ≡ request ∷ left)
IsNext script event = Unit {0}

abbrev IsDrawn : Script → Word → Event → Type 0
IsDrawn script word event = (word_of event ≡ word) × IsNext script event

drawn_of_host : (script : Script) (host : List HostCommand) (event : Event) → option_map (λ command. Host command) (slice_get host 0) ≡ Some event → IsDrawn script H event
drawn_of_host script [] event draws = cc
drawn_of_host script (command ∷ left) event draws = subst (IsDrawn script H) (same_Some _ _ draws) (refl, tt)

drawn_of_guest : (script : Script) (f : FnNo) (requests : List Request) → requests_of script f.0 ≡ requests → (event : Event) → option_map (λ request. Submit f request) (slice_get requests 0) ≡ Some event → IsDrawn script (G f) event
drawn_of_guest script f [] is event draws = cc
drawn_of_guest script f (request ∷ left) is event draws = subst (IsDrawn script (G f)) (same_Some _ _ draws) (refl, (left, is))

drawn_from : (script : Script) (word : Word) (event : Event) → event_of script word ≡ Some event → IsDrawn script word event
drawn_from script T event draws = subst (IsDrawn script T) (same_Some _ _ draws) (refl, tt)
drawn_from script (G f) event draws = drawn_of_guest script f (requests_of script f.0) refl event draws
drawn_from script H event draws = drawn_of_host script script.host event draws
drawn_from script (I f) event draws = subst (IsDrawn script (I f)) (same_Some _ _ draws) (refl, tt)
drawn_from script (P f) event draws = subst (IsDrawn script (P f)) (same_Some _ _ draws) (refl, tt)
drawn_from script (PAt f v) event draws = subst (IsDrawn script (PAt f v)) (same_Some _ _ draws) (refl, tt)
drawn_from script E event draws = subst (IsDrawn script E) (same_Some _ _ draws) (refl, tt)
drawn_from script X event draws = subst (IsDrawn script X) (same_Some _ _ draws) (refl, tt)

-- What comes back

none_back : (left : Left) (word : Word) (told : Answer) → HasNoRequest told → ComesBack left word told
none_back left (G f) (answer.Off request) none = absurd none
none_back left (G f) (answer.Full request) none = absurd none
none_back left word told none = none

-- the request that the event brought was taken of the guest whose word drew it
back_of : (left : Left) (word : Word) (event : Event) (f : FnNo) (request : Request) → word_of event ≡ word → MayGiveBack left event → MayStep event → event ≡ Submit f request
    → (G f ≡ word) × (is_out left f.0 ≡ true) × MayAsk request
back_of left word event f request drawn out fits is =
    let Given : Event → Type 0 = λ event. (word_of event ≡ word) × MayGiveBack left event × MayStep event in subst Given is (drawn, out, fits)

pub comes_back : (left : Left) (script : Script) (word : Word) (event : Event) (told : Answer) → event_of script word ≡ Some event → MayGiveBack left event → MayStep event → HandsBack event told → ComesBack left word told
comes_back left script word event (answer.Off request) draws out fits back =
    let given = back_of left word event back.0 request (drawn_from script word event draws).0 out fits back.1 in
    subst (λ (word : Word). ComesBack left word (answer.Off request)) given.0 (given.1, given.2)
comes_back left script word event (answer.Full request) draws out fits back =
    let given = back_of left word event back.0 request (drawn_from script word event draws).0 out fits back.1 in
    subst (λ (word : Word). ComesBack left word (answer.Full request)) given.0 (given.1, given.2)
comes_back left script word event told draws out fits back = none_back left word told tt

-- What is left

-- the answer to a request that was handed in
submitted : {setting : Setting} {old : State} {f : FnNo} {request : Request} {changes : List Change} {outcome : Outcome} {new : State} → Step setting old (Submit f request) changes outcome new
    → (one other : Function) × Submits setting.machine.queue one request outcome.answer other
submitted step = (_, step.does.comes.submits.after, step.does.comes.submits.becomes)

-- a request that came back is the guest's next, as before it was drawn
back_whole : (script : Script) (f : FnNo) (request : Request) (left : List Request) → requests_of script f.0 ≡ request ∷ left → (back : Request) → back ≡ request → with_next (without_drawn script (Submit f request)) f.0 back ≡ script
back_whole script f request left next back same =
    let old : Left = record { script = script; out = []; kept = 0 } in
    let mid : Left = record { script = record script { guests = with_numbered script.guests f.0 left }; out = with_numbered [] f.0 true; kept = 0 } in
    ap (λ (request : Request). with_next (without_drawn script (Submit f request)) f.0 request) same
    ∙ ap (λ (requests : List Request). with_next (record script { guests = with_numbered script.guests f.0 (drop 1 requests) }) f.0 request) next
    ∙ script-with_back old mid f.0 request (record { left = left; next = next; script = refl; out = refl })

back_after : (script : Script) (f : FnNo) (request : Request) (left : List Request) → requests_of script f.0 ≡ request ∷ left → (told : Answer) (most : ℕ) (one other : Function) → Submits most one request told other
    → with_back (without_drawn script (Submit f request)) (G f) told ≡ left_after script (Submit f request) told
back_after script f request left next (answer.Queued id) most one other submits = refl
back_after script f request left next (answer.Off back) most one other submits = back_whole script f request left next back submits.1
back_after script f request left next (answer.Full back) most one other submits = back_whole script f request left next back submits.1
back_after script f request left next told most one other submits = absurd submits

-- what is left behind the step is what was left behind the drawing, with a request that came back
left_of : (script : Script) (event : Event) → IsNext script event → {setting : Setting} {old : State} {changes : List Change} {outcome : Outcome} {new : State} → Step setting old event changes outcome new
    → with_back (without_drawn script event) (word_of event) outcome.answer ≡ left_after script event outcome.answer
left_of script (Submit f request) next step = let told = submitted step in back_after script f request next.0 next.1 _ _ told.0 told.1 told.2
left_of script Tick next step = refl
left_of script (Host command) next step = refl
left_of script (Handle f) next step = refl
left_of script (Prune f) next step = refl
left_of script (PruneAt f v) next step = refl
left_of script Evict next step = refl
left_of script Restart next step = refl

pub left_behind : (script : Script) (word : Word) (event : Event) → event_of script word ≡ Some event → {setting : Setting} {old : State} {changes : List Change} {outcome : Outcome} {new : State}
    → Step setting old event changes outcome new → with_back (without_drawn script event) word outcome.answer ≡ left_after script event outcome.answer
left_behind script word event draws {outcome = outcome} step =
    let drawn = drawn_from script word event draws in
    subst (λ (word : Word). with_back (without_drawn script event) word outcome.answer ≡ left_after script event outcome.answer) drawn.0 (left_of script event drawn.1 step)

-- The machine stays

drawn_machine : (script : Script) (event : Event) → (without_drawn script event).machine ≡ script.machine
drawn_machine script (Host command) = refl
drawn_machine script (Submit f request) = refl
drawn_machine script event = refl

back_machine : (script : Script) (word : Word) (told : Answer) → (with_back script word told).machine ≡ script.machine
back_machine script (G f) (answer.Off request) = refl
back_machine script (G f) (answer.Full request) = refl
back_machine script word told = refl

pub same_machine : (script : Script) (word : Word) (event : Event) (told : Answer) → (with_back (without_drawn script event) word told).machine ≡ script.machine
same_machine script word event told = back_machine (without_drawn script event) word told ∙ drawn_machine script event
