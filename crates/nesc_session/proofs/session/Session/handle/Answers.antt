use Rattle.std.proofs.Common.{◌||◌, [], Some, refl, sym, subst, ◌∙◌}
use Rattle.std.proofs.lemmas.Bool.{false≢true}
use Rattle.nesc_base.specs.declared.geometry.Geometry.{Geometry}
use Rattle.nesc_requests.specs.declared.event.Event.TheVariants.{Handle}
use Rattle.file_model.specs.Files.{free}
use Rattle.plain_machine.specs.Functions.{Function, function_at}
use Rattle.plain_machine.specs.Handlings.{FindsSpace, Handles}
use Rattle.plain_machine.specs.declared.outcome.Outcome.{Outcome}
use Rattle.nesc_session.specs.Requests.{function_of}
use Rattle.nesc_session.specs.Resting.{functions_in}
use Rattle.nesc_session.specs.Stepping.{DoesInMemory}
use Rattle.nesc_session.proofs.Items.{numbered_item}
use Rattle.nesc_session.proofs.MadeFunctions.{function_stays}
use Rattle.nesc_session.proofs.Moving.{moves_over}
use Rattle.nesc_session.proofs.OffFunctions.{finds_off, handles_off}
use Rattle.nesc_session.proofs.Carried.{carries_none}
use Rattle.nesc_session.proofs.SessionFunctions.{becomes_in, function_off, function_on}
use Rattle.nesc_session.proofs.StillSession.{session_serves, still_holds}
use Rattle.nesc_session.proofs.session.Session.handle.Goals as goal

pub returns-in_default-clause-does : goal.returns-in_default-clause-does
returns-in_default-clause-does c =
    let session = c.args.self.now in
    let function : Function = function_at (functions_in session) c.args.f.0 in
    let off = function_off session c.requires.session c.args.f.0 c.in_default.ensures.none in
    subst (λ (told : Outcome). DoesInMemory session (Handle c.args.f) told session) (sym c.told.ensures) (λ kept state placed stands.
    moves_over session session (Handle c.args.f) (λ is. cc) _ state placed kept [] c.requires.session.division refl refl tt
    (record {
      handles = function_stays (functions_in session) c.args.f.0 (λ (before after : Function). Handles state.now c.args.f before _ [] after) (handles_off function off state.now c.args.f);
      finds = finds_off function off (free session.setting.geometry.blocks state.now) state.now c.args.f;
      same_last = refl;
    })
    (carries_none session.files session.journal kept state.now placed.now stands.now) stands)

pub handle-requires-clause-room : goal.handle-requires-clause-room
handle-requires-clause-room c =
    let session = c.args.self.now in
    let found = c.in-Some.ensures.some in
    let at = numbered_item session.requests.items c.args.f.0 c.in-Some.index c.index_mut.result.now found.1 found.0 c.index_mut.ensures.value in
    c.requires.room c.in-Some.file c.index_mut.result.now found.2 at

pub returns-clause-session : goal.returns-clause-session
returns-clause-session c =
    let session = c.args.self.now in
    let found = c.in-Some.ensures.some in
    let at = numbered_item session.requests.items c.args.f.0 c.in-Some.index c.index_mut.result.now found.1 found.0 c.index_mut.ensures.value in
    let few = c.requires.session.few c.args.f.0 c.index_mut.result.now at in
    session_serves session c.requires.session c.handle.new.files c.handle.ensures.division c.handle.ensures.table c.in-Some.index c.args.f.0 found.1 found.0 c.in-Some.file found.2 c.handle.new.self
    (still_holds _ c.index_mut.result.now.queue c.handle.new.self.queue few c.handle.ensures.depth c.handle.ensures.few) session.last c.requires.session.last _ refl refl refl refl refl

pub returns-clause-does : goal.returns-clause-does
returns-clause-does c kept state placed stands =
    let session = c.args.self.now in
    let found = c.in-Some.ensures.some in
    let at = numbered_item session.requests.items c.args.f.0 c.in-Some.index c.index_mut.result.now found.1 found.0 c.index_mut.ensures.value in
    let over = c.handle.ensures.handles kept state.now placed.now stands.now in
    let result : Outcome = c.handle.result in
    let handles = becomes_in session c.requires.session c.args.f.0 c.in-Some.index c.index_mut.result.now c.handle.new.self c.in-Some.file found.1 found.0 c.index_mut.ensures.value found.2
    (λ (before after : Function). Handles state.now c.args.f before result over.changes after) over.handles in
    let finds = subst (λ (g : Geometry). FindsSpace (free g.blocks state.now) state.now (function_of (Some c.in-Some.file) c.index_mut.result.now) result.answer) c.requires.session.division over.finds in
    moves_over session _ (Handle c.args.f) (λ is. cc) result state placed kept over.changes c.requires.session.division c.handle.ensures.goes_on.same_geometry c.handle.ensures.plain.after tt
    (record {
      handles = handles;
      finds = subst (λ (one : Function). FindsSpace (free session.setting.geometry.blocks state.now) state.now one result.answer)
          (sym (function_on session c.requires.session c.args.f.0 c.index_mut.result.now at c.in-Some.file found.2)) finds;
      same_last = refl;
    })
    over.carries stands

pub returns-clause-media : goal.returns-clause-media
returns-clause-media c tells =
    let get = c.handle.ensures.no_get in
    let read = c.handle.ensures.read in
    false≢true (sym (λ i. get i || read i) ∙ tells)
