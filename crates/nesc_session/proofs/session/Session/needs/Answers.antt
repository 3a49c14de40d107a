use Rattle.std.proofs.Common.{◌≡◌, List, sym, subst}
use Rattle.nesc_base.specs.declared.geometry.Geometry.{Geometry}
use Rattle.nesc_requests.specs.declared.event.Event.{Event}
use Rattle.file_model.specs.Files.{free}
use Rattle.plain_machine.specs.Functions.{Function, function_at}
use Rattle.plain_machine.specs.Handlings.{FindsSpace, Handles}
use Rattle.plain_machine.specs.Machine.{Does, need}
use Rattle.nesc_session.specs.Resting.{functions_in}
use Rattle.nesc_session.proofs.session.Session.needs.Goals as goal

pub returns-in-Handle-clause-need : goal.returns-in-Handle-clause-need
returns-in-Handle-clause-need c kept state placed stands changes outcome next =
    let session = c.args.self.now in
    let f = c.in-Handle.f in
    subst (λ (event : Event). Does session.setting state event changes outcome next → c.needs_of_handling.result ≡ need state event changes) (sym c.in-Handle.is) (λ does.
    let handles = subst (λ (functions : List Function). Handles state.now f (function_at functions f.0) outcome changes does.comes.handles.after) stands.functions does.comes.handles.becomes in
    let finds = subst (λ (functions : List Function). FindsSpace (free session.setting.geometry.blocks state.now) state.now (function_at functions f.0) outcome.answer) stands.functions does.comes.finds in
    c.needs_of_handling.ensures.need state.now placed.now stands.now.knows outcome changes does.comes.handles.after handles
    (subst (λ (g : Geometry). FindsSpace (free g.blocks state.now) state.now (function_at (functions_in session) f.0) outcome.answer) (sym c.requires.session.division) finds))
