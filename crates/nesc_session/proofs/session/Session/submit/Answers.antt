use Rattle.std.proofs.Common.{ℕ, [], Some, refl, ◌∙◌, subst, arith}
use Rattle.nesc_requests.specs.declared.event.Event.TheVariants.{Submit}
use Rattle.plain_machine.specs.Functions.{Function}
use Rattle.plain_machine.specs.Submissions.{Submits}
use Rattle.plain_machine.specs.declared.outcome.Answer.TheVariants.{Off}
use Rattle.nesc_session.specs.Requests.{HoldsUpTo, function_of}
use Rattle.nesc_session.specs.Resting.{functions_in}
use Rattle.nesc_session.proofs.Items.{numbered_item}
use Rattle.nesc_session.proofs.MadeFunctions.{function_stays}
use Rattle.nesc_session.proofs.Moving.{moves_over}
use Rattle.nesc_session.proofs.Carried.{carries_none}
use Rattle.nesc_session.proofs.SessionFunctions.{becomes_in, function_off}
use Rattle.nesc_session.proofs.StillSession.{session_serves}
use Rattle.nesc_session.proofs.Submitted.{hands_back, submits_quiet}
use Rattle.nesc_session.proofs.session.Session.submit.Goals as goal

pub returns-in-None-clause-does : goal.returns-in-None-clause-does
returns-in-None-clause-does c kept state placed stands =
    let session = c.args.self.now in
    let off = function_off session c.requires.session c.args.f.0 c.in-None.ensures.none in
    moves_over session session (Submit c.args.f c.args.request) (λ is. cc) _ state placed kept [] c.requires.session.division refl refl refl
    (record {
      submits = function_stays (functions_in session) c.args.f.0 (λ (before after : Function). Submits session.setting.machine.queue before c.args.request (Off c.args.request) after) (off, refl, refl);
      no_commit = refl;
      silent = refl;
      unchanged = refl;
      same_last = refl;
    })
    (carries_none session.files session.journal kept state.now placed.now stands.now) stands

-- as many may wait as the machine says
module _ (c : goal.After-self-1) where
  holds : HoldsUpTo c.args.self.now.setting.machine.queue c.index_mut.result.now.queue
  holds =
      let found = c.in-Some.ensures.some in
      c.requires.session.few c.args.f.0 c.index_mut.result.now
      (numbered_item c.args.self.now.requests.items c.args.f.0 c.in-Some.index c.index_mut.result.now found.1 found.0 c.index_mut.ensures.value)

  submits_there : Submits c.args.self.now.setting.machine.queue (function_of (Some c.in-Some.field-0-1) c.index_mut.result.now) c.args.request c.submit.result (function_of (Some c.in-Some.field-0-1) c.submit.new.self)
  submits_there =
      subst (λ (most : ℕ). Submits most (function_of (Some c.in-Some.field-0-1) c.index_mut.result.now) c.args.request c.submit.result (function_of (Some c.in-Some.field-0-1) c.submit.new.self))
      holds.depth (c.submit.ensures.submits c.in-Some.field-0-1)

  still : HoldsUpTo c.args.self.now.setting.machine.queue c.submit.new.self.queue
  still = record {
    depth = c.submit.ensures.depth ∙ holds.depth;
    within = let few = c.submit.ensures.few (let within = holds.within in omega (arith, within, holds.depth)) in omega (arith, few, holds.depth);
  }

pub returns-in-Some-clause-does : goal.returns-in-Some-clause-does
returns-in-Some-clause-does c kept state placed stands =
    let session = c.args.self.now in
    let found = c.in-Some.ensures.some in
    let submits = becomes_in session c.requires.session c.args.f.0 c.in-Some.index c.index_mut.result.now c.submit.new.self c.in-Some.field-0-1 found.1 found.0 c.index_mut.ensures.value found.2
    (λ (before after : Function). Submits session.setting.machine.queue before c.args.request c.submit.result after) (submits_there c) in
    moves_over session _ (Submit c.args.f c.args.request) (λ is. cc) _ state placed kept [] c.requires.session.division refl refl refl
    (record { submits = submits; no_commit = refl; silent = refl; unchanged = refl; same_last = refl })
    (carries_none session.files session.journal kept state.now placed.now stands.now) stands

pub returns-in-Some-clause-session : goal.returns-in-Some-clause-session
returns-in-Some-clause-session c =
    let session = c.args.self.now in
    let found = c.in-Some.ensures.some in
    session_serves session c.requires.session session.files refl refl c.in-Some.index c.args.f.0 found.1 found.0 c.in-Some.field-0-1 found.2 c.submit.new.self
    (still c) session.last c.requires.session.last _ refl refl refl refl refl

pub returns-in-Some-clause-no_trees : goal.returns-in-Some-clause-no_trees
returns-in-Some-clause-no_trees c =
    let file = c.in-Some.field-0-1 in
    submits_quiet c.args.self.now.setting.machine.queue (function_of (Some file) c.index_mut.result.now) c.args.request c.submit.result (function_of (Some file) c.submit.new.self) (submits_there c)

pub returns-in-Some-clause-back : goal.returns-in-Some-clause-back
returns-in-Some-clause-back c = hands_back c.args.f c.args.request c.submit.result _ _ _ (submits_there c)
