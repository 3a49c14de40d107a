use Rattle.std.proofs.Common.{Some, refl, sym, ap, subst}
use Rattle.nesc_requests.specs.declared.event.Event.TheVariants.{Host}
use Rattle.nesc_requests.specs.declared.host.HostAnswer.TheVariants.{Ok}
use Rattle.nesc_requests.specs.declared.host.HostCommand.TheVariants.{Sync}
use Rattle.plain_machine.specs.declared.outcome.Outcome.{Outcome}
use Rattle.nesc_session.specs.Resting.{functions_in}
use Rattle.nesc_session.specs.Stepping.{DoesTo}
use Rattle.nesc_session.specs.declared.session.Session.{Session}
use Rattle.nesc_session.proofs.Moving.{keeps_over}
use Rattle.nesc_session.proofs.session.Session.sync.Goals as goal

pub returns-clause-does : goal.returns-clause-does
returns-clause-does g c tells kept state placed is =
    let session : Session = c.args.self.now in
    let middle : Session = c.commit.new.self in
    let same = c.in_ok-clock.ensures.result in
    let keeps = c.in_ok-clock.ensures.keeps_files tells kept state placed is in
    subst (λ (told : Outcome). DoesTo session state placed (Host Sync) (record told { after = Some c.in_ok-clock.clock }) middle (g.D.Disk.known c.commit.new.disk)) (sym c.told.ensures)
    (keeps_over session middle (Host Sync) (λ e. cc) _ state placed middle (g.D.Disk.known c.commit.new.disk) c.in_ok-clock.clock keeps.0 refl refl refl refl
    (record { walks = refl; no_leaf = refl; no_drops = refl; no_path = refl })
    (record {
      said = Ok;
      answers = (refl, refl, ap functions_in same);
      told = refl;
      commits = refl;
      silent = refl;
      same_last = ap (λ (s : Session). s.last) same;
    })
    kept is.stands keeps.1)
