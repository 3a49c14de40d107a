use Rattle.nesc_base.proofs.DiskCalls.{goes_itself, unchanged_itself}
use Rattle.nesc_session.proofs.Leaving.{unchanged_leaves}
use Rattle.nesc_session.proofs.session.Session.make_room.Goals as goal

pub returns-then-need-room-clause-leaves : goal.returns-then-need-room-clause-leaves
returns-then-need-room-clause-leaves g c =
    unchanged_leaves _ c.args.self.now _ _ (g.met.D.Disk.left_now c.args.disk.now) (λ tells k image. g.met.D.Disk.left_by_now c.args.disk.now k image tells) c.requires.rests
    (goes_itself _) (unchanged_itself _)
