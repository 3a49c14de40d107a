use Rattle.std.proofs.Common.{◌≡◌, ◌<◌, List, [], Some, inr, length, refl, sym, subst, arith}
use Rattle.std.specs.Prelude.{slice_set}
use Rattle.nesc_requests.specs.declared.event.Event.TheVariants.{Tick}
use Rattle.plain_machine.specs.Functions.{Becomes, Function, next_runnable}
use Rattle.plain_machine.specs.Ticks.{Serves}
use Rattle.nesc_session.specs.Requests.{Requests, functions_of}
use Rattle.nesc_session.specs.Resting.{functions_in}
use Rattle.nesc_session.specs.declared.session.Session.{Session}
use Rattle.nesc_session.proofs.Items.{numbered_item}
use Rattle.nesc_session.proofs.Moving.{keeps_over}
use Rattle.nesc_session.proofs.NextFunction.{next_ready_in}
use Rattle.nesc_session.proofs.SessionFunctions.{becomes_in}
use Rattle.nesc_session.proofs.StillSession.{session_serves, still_holds}
use Rattle.nesc_session.proofs.session.Session.flush.Goals as goal

pub returns-clause-rests : goal.returns-clause-rests
returns-clause-rests g c =
    let middle : Session = c.commit.new.self in
    let rests = c.in_ok-clock.ensures.rests in
    let same = c.in_ok-clock.ensures.result in
    let requests : Requests = c.index_mut.result.now in
    let within = subst (λ (s : Session). c.args.index < length s.requests.items) (sym same) c.requires.within in
    let next = subst (λ (s : Session). next_runnable (functions_in s) s.last ≡ Some c.args.f.0) (sym same) c.requires.next in
    let at = numbered_item middle.requests.items c.args.f.0 c.args.index requests c.requires.index within c.index_mut.ensures.value in
    let ready = next_ready_in middle rests.sound c.args.f.0 requests next at in
    let few = rests.sound.few c.args.f.0 requests at in
    record {
      sound = session_serves middle rests.sound middle.files refl refl c.args.index c.args.f.0 c.requires.index within ready.1.0 ready.1.1 c.end_flush.new.self
          (still_holds _ requests.queue c.end_flush.new.self.queue few c.end_flush.ensures.depth c.end_flush.ensures.few) c.args.f.0 (omega (arith, c.requires.index, within, rests.sound.functions)) _ refl refl refl refl refl;
      rests = rests.rests;
      opens = rests.opens;
    }

pub returns-clause-does : goal.returns-clause-does
returns-clause-does g c tells kept state placed is =
    let session : Session = c.args.self.now in
    let middle : Session = c.commit.new.self in
    let sound = c.in_ok-clock.ensures.rests.sound in
    let same = c.in_ok-clock.ensures.result in
    let requests : Requests = c.index_mut.result.now in
    let within = subst (λ (s : Session). c.args.index < length s.requests.items) (sym same) c.requires.within in
    let next = subst (λ (s : Session). next_runnable (functions_in s) s.last ≡ Some c.args.f.0) (sym same) c.requires.next in
    let at = numbered_item middle.requests.items c.args.f.0 c.args.index requests c.requires.index within c.index_mut.ensures.value in
    let ready = next_ready_in middle sound c.args.f.0 requests next at in
    let keeps = c.in_ok-clock.ensures.keeps_files tells kept state placed is in
    let way = λ (before after : Function). Serves state.now c.args.f before c.end_flush.result [] after in
    let functions : List Function = functions_of middle.attachments (slice_set middle.requests.items c.args.index c.end_flush.new.self) in
    let becomes = becomes_in middle sound c.args.f.0 c.args.index requests c.end_flush.new.self ready.1.0 c.requires.index within c.index_mut.ensures.value ready.1.1 way (c.end_flush.ensures.serves state.now ready.1.0) in
    keeps_over session _ Tick (λ e. cc) c.end_flush.result state placed middle (g.D.Disk.known c.commit.new.disk) c.in_ok-clock.clock keeps.0 refl refl c.end_flush.ensures.after c.end_flush.ensures.built
    c.end_flush.ensures.no_trees
    (inr (record { f = c.args.f; next = c.requires.next; serves = subst (λ (s : Session). Becomes way c.args.f.0 (functions_in s) functions) same becomes; last_is = refl }))
    kept is.stands keeps.1
