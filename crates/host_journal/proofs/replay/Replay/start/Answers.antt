use Rattle.std.proofs.Common.{sym, subst}
use Rattle.host_journal.specs.Starting.{Starts}
use Rattle.host_journal.specs.declared.journal.StartFault.TheVariants as fault
use Rattle.host_journal.proofs.FirstSync.{err_of, sync_and_replay, sync_failed}
use Rattle.host_journal.proofs.replay.Replay.start.Goals as goal

pub returns-in_err-sync-clause-starts : goal.returns-in_err-sync-clause-starts
returns-in_err-sync-clause-starts g c =
    let synced = c.in_err-sync.ensures in
    subst (Starts g.D.Disk.known c.args.self.now.geometry c.args.disk.now c.sync.new.self)
    (sym (err_of c.from_residual.result _ (fault.Disk c.in_err-sync.field-0.0) (λ e is. is) c.from_residual.ensures))
    (sync_failed g.D.Disk.known c.args.self.now.geometry c.args.disk.now c.sync.new.self (g.met.D.Disk.left_now c.args.disk.now) c.in_err-sync.field-0.0 synced.goes synced.writes synced.cause)

pub returns-clause-starts : goal.returns-clause-starts
returns-clause-starts g c =
    let synced = c.in_ok-sync.ensures in
    sync_and_replay g.D.Disk.known c.args.self.now.geometry c.args.disk.now c.run.new.disk (g.met.D.Disk.left_now c.args.disk.now) c.sync.new.self c.run.result
    (record { goes = synced.goes; contents = synced.contents; settled = synced.settled; writes = synced.writes })
    synced.cause.never_falls c.run.ensures.replays
