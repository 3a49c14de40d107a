use Rattle.std.proofs.Common.{ℕ, Option, inl, inr, refl, sym, subst}
use Rattle.nesc_session.specs.Stepping.{HasRoomFor, KeepsFor}
use Rattle.nesc_session.specs.declared.session.Session.{Session}
use Rattle.nesc_session.proofs.Asking.{asked_after, asked_before}
use Rattle.nesc_session.proofs.LeavingOn.{leaves_by_wider}
use Rattle.nesc_session.proofs.RoomMade.{keeps_before, room_made}
use Rattle.nesc_session.proofs.Stepped.{came_short, clock_in_step, commits_short, keeps_not, leaves_in_step, restarts_not, steps_behind, still_in_step, unasked_in_step}
use Rattle.nesc_session.proofs.session.Session.step.Goals as goal

-- The commit failed

pub returns-in_err-before-clause-leaves : goal.returns-in_err-before-clause-leaves
returns-in_err-before-clause-leaves g c =
    leaves_by_wider (Unit {0}) _ c.args.self.now _ _ (λ _. commits_short c.args.self.now c.args.event c.needs.result c.needs.ensures.asks _ c.requires.rests (c.in_err-before.ensures.short refl)) c.make_room.ensures.leaves

pub returns-in_err-before-clause-unasked : goal.returns-in_err-before-clause-unasked
returns-in_err-before-clause-unasked g c nothing keeps =
    absurd (keeps_not c.args.self.now c.args.event c.needs.result c.needs.ensures.asks _ c.requires.rests (c.in_err-before.ensures.short refl) keeps)

pub returns-in_err-before-clause-asks : goal.returns-in_err-before-clause-asks
returns-in_err-before-clause-asks g c = asked_before c.args.self.now _ c.args.event c.from_residual.result c.needs.result c.needs.ensures.need (c.in_err-before.ensures.short refl)

-- There is room

pub take-requires-clause-room : goal.take-requires-clause-room
take-requires-clause-room g c =
    subst (λ (session : Session). HasRoomFor session c.args.event c.make_room.new.self.journal) (sym c.in_ok-before.ensures.result)
    (room_made c.in_ok-before.before c.args.self.now c.args.event c.make_room.new.self.journal (c.needs.ensures.room c.make_room.new.self.journal c.in_ok-before.ensures.room))

pub returns-in_err-outcome-clause-leaves : goal.returns-in_err-outcome-clause-leaves
returns-in_err-outcome-clause-leaves g c =
    let before : Option ℕ = c.in_ok-before.before in
    leaves_in_step c.args.self.now c.args.event c.needs.result g.D.Disk.known c.args.disk.now c.make_room.new.disk c.make_room.new.self _ before c.in_ok-before.ensures.result c.in_ok-before.ensures.none
    (λ clock is. commits_short c.args.self.now c.args.event c.needs.result c.needs.ensures.asks _ c.requires.rests (came_short before _ _ c.in_ok-before.ensures.due clock is))
    c.make_room.ensures.goes c.take.ensures.goes c.make_room.ensures.leaves c.in_ok-before.ensures.committed c.take.ensures.leaves

pub returns-in_err-outcome-clause-asks : goal.returns-in_err-outcome-clause-asks
returns-in_err-outcome-clause-asks g c =
    let before : Option ℕ = c.in_ok-before.before in
    asked_after c.args.self.now _ c.args.event c.from_residual-in_err-outcome.result c.requires.rests.sound (elim (c.in_err-outcome.ensures.asked refl) [
      | inl keeps ↦ inl (keeps_before before c.args.self.now c.args.event (subst (λ (one : Session). KeepsFor one c.args.event) c.in_ok-before.ensures.result keeps))
      | inr restarts ↦ inr restarts
    ])

pub returns-clause-steps : goal.returns-clause-steps
returns-clause-steps g c =
    steps_behind c.args.self.now c.args.event c.needs.result c.make_room.new.self c.take.new.self _ _ _ c.in_ok-before.before c.in_ok-outcome.outcome c.make_room.ensures.setting c.in_ok-before.ensures.due
    c.needs.ensures.need c.make_room.ensures.goes c.in_ok-before.ensures.committed c.in_ok-outcome.ensures.does

pub returns-clause-clocks : goal.returns-clause-clocks
returns-clause-clocks g c =
    let session : Session = c.args.self.now in
    let before : Option ℕ = c.in_ok-before.before in
    record {
      first = λ clock is.
          let short = came_short before _ _ c.in_ok-before.ensures.due clock is in
          let never = keeps_not session c.args.event c.needs.result c.needs.ensures.asks _ c.requires.rests short in
          clock_in_step session c.args.event c.needs.result g.D.Disk.known c.args.disk.now c.make_room.new.disk clock c.take.new.disk (c.in_ok-before.ensures.clock clock is) c.take.ensures.goes
          (c.take.ensures.still (λ keeps. never (keeps_before before session c.args.event (subst (λ (one : Session). KeepsFor one c.args.event) c.in_ok-before.ensures.result keeps)))
          (restarts_not session c.args.event c.needs.result c.needs.ensures.asks _ c.requires.rests short));
      last = c.in_ok-outcome.ensures.clock;
    }

pub returns-clause-leaves : goal.returns-clause-leaves
returns-clause-leaves g c =
    let before : Option ℕ = c.in_ok-before.before in
    leaves_in_step c.args.self.now c.args.event c.needs.result g.D.Disk.known c.args.disk.now c.make_room.new.disk c.make_room.new.self _ before c.in_ok-before.ensures.result c.in_ok-before.ensures.none
    (λ clock is. commits_short c.args.self.now c.args.event c.needs.result c.needs.ensures.asks _ c.requires.rests (came_short before _ _ c.in_ok-before.ensures.due clock is))
    c.make_room.ensures.goes c.take.ensures.goes c.make_room.ensures.leaves c.in_ok-before.ensures.committed c.take.ensures.leaves

pub returns-clause-unasked : goal.returns-clause-unasked
returns-clause-unasked g c nothing keeps =
    let before : Option ℕ = c.in_ok-before.before in (
      refl,
      unasked_in_step c.args.self.now c.args.event c.needs.result g.D.Disk.known c.args.disk.now c.make_room.new.disk c.make_room.new.self c.take.new.disk before c.in_ok-before.ensures.result c.in_ok-before.ensures.none
          (λ clock is. keeps_not c.args.self.now c.args.event c.needs.result c.needs.ensures.asks _ c.requires.rests (came_short before _ _ c.in_ok-before.ensures.due clock is))
          (λ staged kept. (c.take.ensures.unasked staged kept).1) nothing keeps,
    )

pub returns-clause-still : goal.returns-clause-still
returns-clause-still g c never other =
    let before : Option ℕ = c.in_ok-before.before in
    still_in_step c.args.self.now c.args.event c.needs.result g.D.Disk.known c.args.disk.now c.make_room.new.disk c.make_room.new.self c.take.new.disk before c.in_ok-before.ensures.result c.in_ok-before.ensures.none
    (λ clock is. commits_short c.args.self.now c.args.event c.needs.result c.needs.ensures.asks _ c.requires.rests (came_short before _ _ c.in_ok-before.ensures.due clock is))
    (λ none. c.take.ensures.still none other) never
