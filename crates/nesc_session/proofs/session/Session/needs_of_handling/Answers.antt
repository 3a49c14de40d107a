use Rattle.std.proofs.Common.{ap, sym, subst}
use Rattle.file_model.specs.Files.{free, staged}
use Rattle.plain_machine.specs.Functions.{Function, function_at}
use Rattle.plain_machine.specs.Handlings.{FindsSpace, Handles}
use Rattle.nesc_session.specs.Resting.{functions_in}
use Rattle.nesc_session.proofs.Items.{numbered_item}
use Rattle.nesc_session.proofs.OffFunctions.{handled_off}
use Rattle.nesc_session.proofs.SessionFunctions.{function_off, function_on}
use Rattle.nesc_session.proofs.session.Session.needs_of_handling.Goals as goal

pub returns-in-Some-clause-asks : goal.returns-in-Some-clause-asks
returns-in-Some-clause-asks c journal few room =
    let session = c.args.self.now in
    let found = c.in-Some.ensures.some in
    let at = numbered_item session.requests.items c.args.f.0 c.in-Some.index c.index.result.now found.1 found.0 c.index.ensures in
    c.holdable.ensures.asks (c.requires.session.used c.args.f.0 c.in-Some.file found.2) journal few (room c.in-Some.file c.index.result.now found.2 at)

pub returns-in-Some-clause-need : goal.returns-in-Some-clause-need
returns-in-Some-clause-need c set places knows told changes new handles finds =
    let session = c.args.self.now in
    let found = c.in-Some.ensures.some in
    let at = numbered_item session.requests.items c.args.f.0 c.in-Some.index c.index.result.now found.1 found.0 c.index.ensures in
    let same = function_on session c.requires.session c.args.f.0 c.index.result.now at c.in-Some.file found.2 in
    c.holdable.ensures.need set places knows c.args.f told changes new (subst (λ (one : Function). Handles set c.args.f one told changes new) same handles)
    (subst (λ (one : Function). FindsSpace (free session.files.geometry.blocks set) set one told.answer) same finds)

pub returns-in-None-clause-need : goal.returns-in-None-clause-need
returns-in-None-clause-need c set places knows told changes new handles finds =
    let session = c.args.self.now in
    let off = function_off session c.requires.session c.args.f.0 c.in-None.ensures.none in
    sym (ap staged (handled_off (function_at (functions_in session) c.args.f.0) off set c.args.f told changes new handles))
