use Rattle.std.proofs.Common.{◌+◌, ◌<◌, true, List, [], inl, inr, length, option_map, refl, sym, ap, subst, ◌∙◌, arith}
use Rattle.std.proofs.lemmas.Option.{none-some}
use Rattle.nesc_base.specs.declared.numbers.FnNo.{FnNo}
use Rattle.nesc_base.specs.Disk.{Known}
use Rattle.nesc_base.proofs.DiskCalls.{goes_itself, unchanged_itself}
use Rattle.nesc_requests.specs.declared.event.Event.TheVariants.{Tick}
use Rattle.plain_machine.specs.Functions.{Function}
use Rattle.plain_machine.specs.Ticks.{Serves}
use Rattle.plain_machine.specs.declared.outcome.Outcome.{Outcome}
use Rattle.nesc_session.specs.Requests.{Requests}
use Rattle.nesc_session.specs.Stepping.{DoesTo, KeepsFor}
use Rattle.nesc_session.specs.declared.session.Session.{Session}
use Rattle.nesc_session.proofs.Carried.{carries_none}
use Rattle.nesc_session.proofs.Leaving.{unchanged_leaves}
use Rattle.nesc_session.proofs.LeavingOn.{leaves_by_wider}
use Rattle.nesc_session.proofs.Moving.{moves_over}
use Rattle.nesc_session.proofs.NextFunction.{flushes_first, keeps_flush, keeps_no_flush, needs_next, next_at, next_in, next_ready_in}
use Rattle.nesc_session.proofs.Quiet.{quiet_where_kept}
use Rattle.nesc_session.proofs.SessionFunctions.{becomes_in}
use Rattle.nesc_session.proofs.StillRests.{does_read, does_unasked, rests_read}
use Rattle.nesc_session.proofs.StillSession.{session_serves, still_holds}
use Rattle.nesc_session.proofs.session.Session.tick.Goals as goal

-- No function is next

pub returns-in_default-clause-does : goal.returns-in_default-clause-does
returns-in_default-clause-does g c tells kept state placed is =
    let session : Session = c.args.self.now in
    let disk : Known = g.D.Disk.known c.args.disk.now in
    let none = next_in session c.requires.rests.sound c.deref.result.now c.next_index.result c.deref.ensures.value c.next_index.ensures.next ∙ ap (option_map (λ i. i + 1)) c.in_default.is in
    subst (λ (told : Outcome). DoesTo session state placed Tick told session disk) (sym c.told.ensures)
    (does_unasked session session disk Tick _ refl (record { walks = refl; no_leaf = refl; no_drops = refl; no_path = refl }) (λ kept state placed stands.
    moves_over session session Tick (λ e. cc) _ state placed kept [] c.requires.rests.sound.division refl refl refl
    (inl (record { none = none; idle = refl; no_commit = refl; silent = refl; unchanged = refl; same = refl; same_last = refl }))
    (carries_none session.files session.journal kept state.now placed.now stands.now) stands) tells kept state placed is)

pub returns-in_default-clause-leaves : goal.returns-in_default-clause-leaves
returns-in_default-clause-leaves g c =
    unchanged_leaves _ c.args.self.now _ _ (g.met.D.Disk.left_now c.args.disk.now) (λ tells k image. g.met.D.Disk.left_by_now c.args.disk.now k image tells) c.requires.rests
    (goes_itself _) (unchanged_itself _)

-- It has a flush first

pub flush-requires-clause-flush : goal.flush-requires-clause-flush
flush-requires-clause-flush g c =
    let session : Session = c.args.self.now in
    let next = next_at session c.requires.rests.sound c.deref.result.now c.next_index.result c.in-Some.index c.index.result.now c.deref.ensures.value c.next_index.ensures.next c.in-Some.is
    c.in-Some.ensures.within c.index.ensures in
    flushes_first session c.requires.rests.sound (c.in-Some.index + 1) c.index.result.now next.0 next.1 (sym c.starts_with_flush.ensures ∙ c.if-starts_with_flush.true)

pub returns-then-starts_with_flush-clause-leaves : goal.returns-then-starts_with_flush-clause-leaves
returns-then-starts_with_flush-clause-leaves g c =
    let session : Session = c.args.self.now in
    let next = next_at session c.requires.rests.sound c.deref.result.now c.next_index.result c.in-Some.index c.index.result.now c.deref.ensures.value c.next_index.ensures.next c.in-Some.is
    c.in-Some.ensures.within c.index.ensures in
    leaves_by_wider (Unit {0}) (KeepsFor session Tick) session _ _
    (λ _. keeps_flush session c.requires.rests.sound (c.in-Some.index + 1) c.index.result.now next.0 next.1 (sym c.starts_with_flush.ensures ∙ c.if-starts_with_flush.true)) c.flush.ensures.leaves

pub returns-then-starts_with_flush-clause-asked : goal.returns-then-starts_with_flush-clause-asked
returns-then-starts_with_flush-clause-asked g c failed =
    let session : Session = c.args.self.now in
    let next = next_at session c.requires.rests.sound c.deref.result.now c.next_index.result c.in-Some.index c.index.result.now c.deref.ensures.value c.next_index.ensures.next c.in-Some.is
    c.in-Some.ensures.within c.index.ensures in
    keeps_flush session c.requires.rests.sound (c.in-Some.index + 1) c.index.result.now next.0 next.1 (sym c.starts_with_flush.ensures ∙ c.if-starts_with_flush.true)

pub returns-then-starts_with_flush-clause-still : goal.returns-then-starts_with_flush-clause-still
returns-then-starts_with_flush-clause-still g c none =
    let session : Session = c.args.self.now in
    let next = next_at session c.requires.rests.sound c.deref.result.now c.next_index.result c.in-Some.index c.index.result.now c.deref.ensures.value c.next_index.ensures.next c.in-Some.is
    c.in-Some.ensures.within c.index.ensures in
    absurd (none (keeps_flush session c.requires.rests.sound (c.in-Some.index + 1) c.index.result.now next.0 next.1 (sym c.starts_with_flush.ensures ∙ c.if-starts_with_flush.true)))

pub returns-then-starts_with_flush-clause-quiet : goal.returns-then-starts_with_flush-clause-quiet
returns-then-starts_with_flush-clause-quiet g c =
    let session : Session = c.args.self.now in
    let next = next_at session c.requires.rests.sound c.deref.result.now c.next_index.result c.in-Some.index c.index.result.now c.deref.ensures.value c.next_index.ensures.next c.in-Some.is
    c.in-Some.ensures.within c.index.ensures in
    quiet_where_kept (KeepsFor session Tick)
    (keeps_flush session c.requires.rests.sound (c.in-Some.index + 1) c.index.result.now next.0 next.1 (sym c.starts_with_flush.ensures ∙ c.if-starts_with_flush.true)) c.flush.result

-- It has a file

pub returns-in_default-file-clause-does : goal.returns-in_default-file-clause-does
returns-in_default-file-clause-does g c tells kept state placed is =
    let session : Session = c.args.self.now in
    let next = next_at session c.requires.rests.sound c.deref.result.now c.next_index.result c.in-Some.index c.index.result.now c.deref.ensures.value c.next_index.ensures.next c.in-Some.is
    c.in-Some.ensures.within c.index.ensures in
    let ready = next_ready_in session c.requires.rests.sound (c.in-Some.index + 1) c.index.result.now next.0 next.1 in
    absurd (none-some ready.1.0 (c.in_default-file.ensures.file ∙ ready.1.1))

pub returns-in_default-file-clause-leaves : goal.returns-in_default-file-clause-leaves
returns-in_default-file-clause-leaves g c =
    unchanged_leaves _ c.args.self.now _ _ (g.met.D.Disk.left_now c.args.disk.now) (λ tells k image. g.met.D.Disk.left_by_now c.args.disk.now k image tells) c.requires.rests
    (goes_itself _) (unchanged_itself _)

-- It is served

pub serve-requires-clause-ready : goal.serve-requires-clause-ready
serve-requires-clause-ready g c =
    let session : Session = c.args.self.now in
    let requests : Requests = c.index_mut-requests.result.now in
    let next = next_at session c.requires.rests.sound c.deref.result.now c.next_index.result c.in-Some.index requests c.deref.ensures.value c.next_index.ensures.next c.in-Some.is
    c.in-Some.ensures.within c.index_mut-requests.ensures.value in
    (next_ready_in session c.requires.rests.sound (c.in-Some.index + 1) requests next.0 next.1).0

pub serve-requires-clause-room : goal.serve-requires-clause-room
serve-requires-clause-room g c write =
    let session : Session = c.args.self.now in
    let requests : Requests = c.index_mut-requests.result.now in
    let next = next_at session c.requires.rests.sound c.deref.result.now c.next_index.result c.in-Some.index requests c.deref.ensures.value c.next_index.ensures.next c.in-Some.is
    c.in-Some.ensures.within c.index_mut-requests.ensures.value in
    omega (arith, c.requires.room, needs_next session c.requires.rests.sound (c.in-Some.index + 1) requests next.0 next.1 true write)

pub returns-clause-rests : goal.returns-clause-rests
returns-clause-rests g c =
    let session : Session = c.args.self.now in
    let sound = c.requires.rests.sound in
    let requests : Requests = c.index_mut-requests.result.now in
    let next = next_at session sound c.deref.result.now c.next_index.result c.in-Some.index requests c.deref.ensures.value c.next_index.ensures.next c.in-Some.is
    c.in-Some.ensures.within c.index_mut-requests.ensures.value in
    let within = subst (λ (all : List Requests). c.in-Some.index < length all) c.deref.ensures.value c.in-Some.ensures.within in
    let few = sound.few (c.in-Some.index + 1) requests next.1 in
    rests_read session _ _ _ c.serve.ensures.goes c.serve.ensures.unchanged c.serve.ensures.goes_on.same_geometry
    (session_serves session sound session.files refl refl c.in-Some.index (c.in-Some.index + 1) refl within c.in-Some-file.file (sym c.in-Some-file.ensures.file) c.serve.new.self
    (still_holds _ requests.queue c.serve.new.self.queue few c.serve.ensures.depth c.serve.ensures.few) (c.in-Some.index + 1) (omega (arith, within, sound.functions)) _ refl refl refl refl refl)
    c.serve.ensures.rests c.requires.rests

pub returns-clause-does : goal.returns-clause-does
returns-clause-does g c tells kept state placed is =
    let session : Session = c.args.self.now in
    let sound = c.requires.rests.sound in
    let requests : Requests = c.index_mut-requests.result.now in
    let next = next_at session sound c.deref.result.now c.next_index.result c.in-Some.index requests c.deref.ensures.value c.next_index.ensures.next c.in-Some.is
    c.in-Some.ensures.within c.index_mut-requests.ensures.value in
    let within = subst (λ (all : List Requests). c.in-Some.index < length all) c.deref.ensures.value c.in-Some.ensures.within in
    let f : FnNo = record { 0 = c.in-Some.index + 1 } in
    let over = c.serve.ensures.serves tells kept state.now placed.now is.has_kept is.stands.now in
    let serves = becomes_in session sound f.0 c.in-Some.index requests c.serve.new.self c.in-Some-file.file refl within c.index_mut-requests.ensures.value (sym c.in-Some-file.ensures.file)
    (λ (before after : Function). Serves state.now f before c.serve.result over.changes after) over.serves in
    does_read session _ _ _ c.serve.ensures.goes c.serve.ensures.unchanged c.serve.ensures.goes_on.same_geometry Tick c.serve.result kept state placed tells c.serve.ensures.no_trees is.has_kept
    (moves_over session _ Tick (λ e. cc) c.serve.result state placed kept over.changes sound.division c.serve.ensures.goes_on.same_geometry c.serve.ensures.plain.after c.serve.ensures.plain.built
    (inr (record { f = f; next = next.0; serves = serves; last_is = refl })) over.carries is.stands)

pub returns-clause-leaves : goal.returns-clause-leaves
returns-clause-leaves g c =
    unchanged_leaves _ c.args.self.now _ _ (g.met.D.Disk.left_now c.args.disk.now) (λ tells k image. g.met.D.Disk.left_by_now c.args.disk.now k image tells) c.requires.rests
    c.serve.ensures.goes c.serve.ensures.unchanged

pub returns-clause-unasked : goal.returns-clause-unasked
returns-clause-unasked g c nothing keeps =
    let session : Session = c.args.self.now in
    let next = next_at session c.requires.rests.sound c.deref.result.now c.next_index.result c.in-Some.index c.index.result.now c.deref.ensures.value c.next_index.ensures.next c.in-Some.is
    c.in-Some.ensures.within c.index.ensures in
    absurd (keeps_no_flush session c.requires.rests.sound (c.in-Some.index + 1) c.index.result.now next.0 next.1 (sym c.starts_with_flush.ensures ∙ c.if-starts_with_flush.false) keeps)
