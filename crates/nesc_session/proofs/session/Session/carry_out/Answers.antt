use Rattle.std.proofs.Common.{◌≡◌, ℕ, List, Option, refl, sym, ap, subst, length, ◌∙◌}
use Rattle.std.specs.List.{All}
use Rattle.nesc_base.specs.declared.geometry.Geometry.{Geometry}
use Rattle.nesc_base.specs.declared.numbers.FileNo.{FileNo}
use Rattle.nesc_requests.specs.declared.event.Event.TheVariants.{Host}
use Rattle.hypervisor.specs.Attachments.{AreFunctions, AreQueued}
use Rattle.hypervisor.specs.Telling.{told}
use Rattle.plain_machine.specs.Functions.{Function}
use Rattle.plain_machine.specs.HostCommands.{HostStep}
use Rattle.nesc_session.specs.Requests.{IsClearWhereIdle, Requests, functions_of}
use Rattle.nesc_session.specs.Resting.{IsIdleWhereOff, functions_in}
use Rattle.nesc_session.specs.declared.session.Session.{Session}
use Rattle.nesc_session.proofs.HostFunctions.{functions_left, no_sync}
use Rattle.nesc_session.proofs.HostSession.{hosted, session_hosts}
use Rattle.nesc_session.proofs.MadeFunctions.{file_numbers_functions}
use Rattle.nesc_session.proofs.Moving.{moves_over}
use Rattle.nesc_session.proofs.SessionFunctions.{as_many}
use Rattle.nesc_session.proofs.StillRests.{does_read, rests_read}
use Rattle.nesc_session.proofs.session.Session.carry_out.Goals as goal

-- for which functions requests wait
waits : (session : Session) (all : List Requests) (queued : ℕ) → length session.attachments ≡ length session.requests.items → IsIdleWhereOff session.attachments session.requests.items → all ≡ session.requests.items
    → ((files : List (Option FileNo)) → length files ≡ length all → IsIdleWhereOff files all → AreQueued queued (functions_of files all)) → AreQueued queued (functions_in session)
waits session all queued as_many idle same says = subst (λ (these : List Requests). AreQueued queued (functions_of session.attachments these)) same
    (says session.attachments (as_many ∙ ap length (sym same)) (subst (IsIdleWhereOff session.attachments) (sym same) idle))

pub returns-clause-rests : goal.returns-clause-rests
returns-clause-rests g c =
    let session : Session = c.args.self.now in
    let sound = c.requires.rests.sound in
    let done = c.command-done.ensures in
    let queued = waits session c.deref.result.now c.queued-queued.result (as_many session sound) sound.idle c.deref.ensures.value c.queued-queued.ensures.queued in
    let division = sym done.rests.fits.same ∙ done.goes_on.same_geometry ∙ c.requires.rests.rests.fits.same in
    rests_read session _ _ _ done.goes done.unchanged done.goes_on.same_geometry
    (session_hosts session sound c.command-done.new.attachments c.queued-queued.result queued done.idle c.command-done.new.files c.command-done.new.journal division done.as_many done.used)
    done.rests c.requires.rests

pub returns-clause-does : goal.returns-clause-does
returns-clause-does g c tells kept state placed is =
    let session : Session = c.args.self.now in
    let sound = c.requires.rests.sound in
    let done = c.command-done.ensures in
    let new : Session = hosted session c.command-done.new.files c.command-done.new.journal c.command-done.new.attachments in
    let queued = waits session c.deref.result.now c.queued-queued.result (as_many session sound) sound.idle c.deref.ensures.value c.queued-queued.ensures.queued in
    let clear = subst (λ (all : List Requests). All IsClearWhereIdle all) c.deref.ensures.value c.queued-queued.ensures.clear in
    let are : AreFunctions session.attachments c.queued-queued.result (functions_in session) =
    record { files = file_numbers_functions session.attachments session.requests.items (as_many session sound); queues = queued } in
    let over = done.does tells kept is.has_kept state.now placed.now (functions_in session) is.stands.now are in
    let left = functions_left session.attachments session.requests.items (as_many session sound) sound.idle clear
    (told c.command-done.result.change new.attachments (functions_in session)) new.attachments over.files session.files.geometry.blocks state.now c.args.command c.command-done.result.answer over.changes c.requires.here over.step in
    let step = subst (λ (g : Geometry). HostStep g.blocks state.now (functions_in session) c.args.command c.command-done.result.answer over.changes (functions_in new)) sound.division
    (subst (λ (functions : List Function). HostStep session.files.geometry.blocks state.now (functions_in session) c.args.command c.command-done.result.answer over.changes functions) left over.step) in
    does_read session new _ _ done.goes done.unchanged done.goes_on.same_geometry (Host c.args.command) _ kept state placed tells (record { walks = refl; no_leaf = refl; no_drops = refl; no_path = refl }) is.has_kept
    (moves_over session new (Host c.args.command) (λ e. cc) _ state placed kept over.changes sound.division done.goes_on.same_geometry refl refl
    (record { said = c.command-done.result.answer; answers = step; told = refl; commits = sym (no_sync c.args.command c.requires.here); silent = refl; same_last = refl })
    over.carries is.stands)
