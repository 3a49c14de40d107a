use Rattle.std.proofs.Common.{◌≡◌, ◌+◌, IsOk, Err, length, map, slice_index_or, refl, sym, ap, ◌∙◌, subst, arith}
use Rattle.std.specs.Vec.{with_items}
use Rattle.std.proofs.lemmas.List.{length-map, with_items_is}
use Rattle.nesc_requests.specs.Buffers.{Spare}
use Rattle.nesc_requests.specs.declared.event.Event.TheVariants.{Restart}
use Rattle.host_journal.specs.declared.journal.StartFault.{StartFault}
use Rattle.host_journal.specs.Journal.{Journal, started_anew}
use Rattle.host_journal.proofs.FirstSync.{err_of}
use Rattle.image_layout.specs.declared.fault.OpenFault.{OpenFault}
use Rattle.image_layout.specs.declared.fault.OpenFault.TheVariants as opening
use Rattle.file_layer.specs.Loading.{Loads}
use Rattle.file_layer.proofs.BlocksRead.{where_ok}
use Rattle.plain_machine.specs.declared.outcome.Outcome.{Outcome}
use Rattle.nesc_session.specs.Buffers.{outcome_buffers, queue_buffers, waiting_buffers}
use Rattle.nesc_session.specs.Requests.{Requests, cleared}
use Rattle.nesc_session.specs.declared.session.Session.{Session}
use Rattle.nesc_session.specs.Stepping.{DoesTo, step_fault_of_load, step_fault_of_start}
use Rattle.nesc_session.specs.declared.fault.StepFault.{StepFault}
use Rattle.nesc_session.specs.declared.fault.StepFault.TheVariants as fault
use Rattle.nesc_session.proofs.Cleared.{all_cleared, one_cleared}
use Rattle.nesc_session.proofs.Counted.{buffers_among, buffers_cleared, buffers_with}
use Rattle.nesc_session.proofs.Faults.{image_of_load, image_of_start}
use Rattle.nesc_session.proofs.Renamed.{err_renamed, same_err, was_ok}
use Rattle.nesc_session.proofs.Restarted.{IsRestarted, files_are_there, lists_are_good, load_leaves, restarted_does, restarted_rests, start_leaves}
use Rattle.nesc_session.proofs.session.Session.restart.Given.{Over}
use Rattle.nesc_session.proofs.session.Session.restart.Goals as goal

pub returns-in_err-map_err-clause-leaves : goal.returns-in_err-map_err-clause-leaves
returns-in_err-map_err-clause-leaves g c = start_leaves g.D.Disk.known c.args.self.now _ _ c.start.result c.requires.rests c.start.ensures.starts

pub returns-in_err-map_err-clause-opens : goal.returns-in_err-map_err-clause-opens
returns-in_err-map_err-clause-opens g c tells image is =
    let found : StepFault = c.in_err-map_err.field-0.0 in
    let was = err_renamed _ c.start.result c.map_err.result found c.map_err.ensures.cases c.in_err-map_err.was in
    let first : StartFault = was.0 in
    let named : found ≡ step_fault_of_start first = was.2 in
    let back : c.from_residual.result ≡ Err found = err_of c.from_residual.result _ found (λ e same. same) c.from_residual.ensures in
    let bad = image_of_start first image (sym named ∙ same_err found (fault.Image image) (sym back ∙ is)) in
    lists_are_good g.D.Disk.known c.args.self.now _ _ c.start.result c.requires.rests c.start.ensures.starts tells bad.0 (was.1 ∙ ap Err bad.1)

pub returns-in_err-map_err-2-clause-leaves : goal.returns-in_err-map_err-2-clause-leaves
returns-in_err-map_err-2-clause-leaves g c =
    let ok : IsOk c.start.result = was_ok c.start.result c.map_err.result _ c.map_err.ensures.variant c.in_ok-map_err.was in
    load_leaves g.D.Disk.known c.args.self.now _ _ c.start.result c.requires.rests c.start.ensures.starts ok _ c.load.ensures.goes c.load.ensures.unchanged
    (g.met.D.Disk.left_now c.start.new.disk) (λ tells k image. g.met.D.Disk.left_by_now c.start.new.disk k image tells)

pub returns-in_err-map_err-2-clause-opens : goal.returns-in_err-map_err-2-clause-opens
returns-in_err-map_err-2-clause-opens g c tells image is =
    let ok : IsOk c.start.result = was_ok c.start.result c.map_err.result _ c.map_err.ensures.variant c.in_ok-map_err.was in
    let anew : c.start.new.self ≡ started_anew c.args.self.now.journal = where_ok c.start.result ok c.start.ensures.started in
    let loads : Loads (started_anew c.args.self.now.journal) (g.D.Disk.known c.start.new.disk) c.load.new.self c.load.result =
    subst (λ (j : Journal). Loads j (g.D.Disk.known c.start.new.disk) c.load.new.self c.load.result) anew c.load.ensures.loads in
    let found : StepFault = c.in_err-map_err-2.field-0.0 in
    let was = err_renamed _ c.load.result c.map_err-2.result found c.map_err-2.ensures.cases c.in_err-map_err-2.was in
    let first : OpenFault = was.0 in
    let named : found ≡ step_fault_of_load first = was.2 in
    let back : c.from_residual-in_err-map_err-2.result ≡ Err found = err_of c.from_residual-in_err-map_err-2.result _ found (λ e same. same) c.from_residual-in_err-map_err-2.ensures in
    let bad : first ≡ opening.Image image = image_of_load first image (sym named ∙ same_err found (fault.Image image) (sym back ∙ is)) in
    files_are_there g.D.Disk.known c.args.self.now _ _ c.start.result c.requires.rests c.start.ensures.starts ok c.load.new.self c.load.result loads tells image (was.1 ∙ ap Err bad)

-- Each is cleared

pub clear-requires-in-loop-requests : goal.clear-requires-in-loop-requests
clear-requires-in-loop-requests g c =
    let items = c.loop-requests.requests-items in
    let item : Requests = slice_index_or items c.loop-requests.requests-index c.requests-item.result in
    let among = buffers_among items c.loop-requests.requests-index item (omega arith) (ap (slice_index_or items c.loop-requests.requests-index) c.requests-item.is) in
    record { room = omega (arith, among, c.requires.room, c.loop-requests.invariant.buffers, c.loop-requests.invariant.room) }

pub loop-requests-preserved : goal.loop-requests-preserved
loop-requests-preserved g c =
    let items = c.loop-requests.requests-items in
    let item : Requests = slice_index_or items c.loop-requests.requests-index c.requests-item.result in
    let new : Requests = c.clear-in-loop-requests.new.self in
    let spare : Spare = c.clear-in-loop-requests.new.spare in
    let is : item ≡ slice_index_or items c.loop-requests.requests-index item = ap (slice_index_or items c.loop-requests.requests-index) c.requests-item.is in
    let more : spare.count ≡ queue_buffers item.queue.requests + c.loop-requests.spare.count = c.clear-in-loop-requests.ensures.spare in
    let none : queue_buffers new.queue.requests ≡ 0 = ap (λ (requests : Requests). queue_buffers requests.queue.requests) c.clear-in-loop-requests.ensures.cleared in
    let fewer = buffers_with items c.loop-requests.requests-index item new 0 (queue_buffers item.queue.requests) (omega arith) is (omega (arith, none)) in
    record {
      cleared = one_cleared _ items c.loop-requests.requests-index item new c.loop-requests.invariant.cleared (omega arith) is c.clear-in-loop-requests.ensures.cleared;
      buffers = let then = c.loop-requests.invariant.buffers in omega (arith, fewer, more, then);
      room = c.clear-in-loop-requests.ensures.room ∙ c.loop-requests.invariant.room;
    }

-- the session that is left
module _ (g : Over) (c : goal.After-told g) where
  abbrev left : Session
  left = record {
    setting = c.args.self.now.setting;
    files = c.load.new.self;
    journal = c.start.new.self;
    attachments = c.clear.new.self;
    requests = with_items c.args.self.now.requests c.loop-requests.requests-items;
    last = 0;
  }

  started : IsOk c.start.result
  started = was_ok c.start.result c.map_err.result _ c.map_err.ensures.variant c.in_ok-map_err.was

  loaded : IsOk c.load.result
  loaded = was_ok c.load.result c.map_err-2.result _ c.map_err-2.ensures.variant c.in_ok-map_err-2.was

  cleared_there : c.loop-requests.requests-items ≡ map cleared c.args.self.now.requests.items
  cleared_there =
      all_cleared c.deref_mut-requests-items.result.now c.loop-requests.requests-items c.loop-requests.requests-index c.loop-requests.invariant.cleared (omega (arith, c.loop-requests-test.false))
      ∙ ap (map cleared) c.deref_mut-requests-items.ensures.value

  as_many : length c.loop-requests.requests-items ≡ c.args.self.now.requests.len
  as_many = ap length cleared_there ∙ length-map c.args.self.now.requests.items cleared ∙ sym c.args.self.now.requests.ok.0

  is_restarted : IsRestarted c.args.self.now left
  is_restarted = record {
    setting = refl;
    journal = where_ok c.start.result started c.start.ensures.started;
    attachments = c.clear.ensures;
    requests = with_items_is c.args.self.now.requests c.loop-requests.requests-items as_many ∙ cleared_there;
    last = refl;
  }

pub returns-clause-rests : goal.returns-clause-rests
returns-clause-rests g c =
    restarted_rests g.D.Disk.known c.args.self.now _ _ c.start.result c.requires.rests c.start.ensures.starts (started g c) _ c.load.ensures.goes c.load.ensures.unchanged
    (left g c) (is_restarted g c) (where_ok c.load.result (loaded g c) c.load.ensures.rests)

pub returns-clause-does : goal.returns-clause-does
returns-clause-does g c tells kept state placed is =
    subst (λ (outcome : Outcome). DoesTo c.args.self.now state placed Restart outcome (left g c) (g.D.Disk.known c.load.new.disk)) (sym c.told.ensures)
    (restarted_does g.D.Disk.known c.args.self.now _ _ c.start.result c.requires.rests c.start.ensures.starts (started g c) _ c.load.ensures.goes c.load.ensures.unchanged
    (left g c) (is_restarted g c) (where_ok c.load.result (loaded g c) c.load.ensures.rests) tells kept state placed is)

pub returns-clause-leaves : goal.returns-clause-leaves
returns-clause-leaves g c =
    load_leaves g.D.Disk.known c.args.self.now _ _ c.start.result c.requires.rests c.start.ensures.starts (started g c) _ c.load.ensures.goes c.load.ensures.unchanged
    (g.met.D.Disk.left_now c.start.new.disk) (λ tells k image. g.met.D.Disk.left_by_now c.start.new.disk k image tells)

pub returns-clause-buffers : goal.returns-clause-buffers
returns-clause-buffers g c =
    let here : waiting_buffers (left g c).requests.items ≡ 0 = ap waiting_buffers (is_restarted g c).requests ∙ buffers_cleared c.args.self.now.requests.items in
    let there : waiting_buffers c.loop-requests.requests-items ≡ 0 = ap waiting_buffers (cleared_there g c) ∙ buffers_cleared c.args.self.now.requests.items in
    let told = ap outcome_buffers c.told.ensures in
    let then = c.loop-requests.invariant.buffers in
    omega (arith, here, there, told, then)

pub returns-clause-room : goal.returns-clause-room
returns-clause-room g c = c.loop-requests.invariant.room
