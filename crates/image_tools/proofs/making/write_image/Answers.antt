use Rattle.std.proofs.Common.{Err, refl}
use Rattle.image_tools.proofs.Stages.{IsBased, Makes-all, Makes-not_based, Makes-not_cleared, Makes-not_started, based}
use Rattle.image_tools.proofs.making.write_image.Goals as goal

pub returns-in_err-clear-clause-makes : goal.returns-in_err-clear-clause-makes
returns-in_err-clear-clause-makes g c =
    Makes-not_cleared c.args.geometry _ _ _ (Err c.in_err-clear.field-0.0) _ (g.met.D.Disk.left_now c.args.disk.now) refl c.from_residual.ensures.0 c.in_err-clear.ensures.clears

pub returns-in_err-sync-clause-makes : goal.returns-in_err-sync-clause-makes
returns-in_err-sync-clause-makes g c =
    let synced = c.in_err-sync.ensures in
    Makes-not_based c.args.geometry _ _ _ _ (Err c.in_err-sync.field-0.0) _ (g.met.D.Disk.left_now c.args.disk.now) refl c.from_residual-in_err-sync.ensures.0 c.in_ok-clear.ensures.clears
    (record { contents = synced.contents; settled = synced.settled; writes = synced.writes; goes = synced.goes; cause = synced.cause })

pub returns-in_err-write-clause-makes : goal.returns-in_err-write-clause-makes
returns-in_err-write-clause-makes g c =
    let known = g.D.Disk.known in
    let synced = c.in_ok-sync.ensures in
    let written = c.in_err-write.ensures in
    let is_based : IsBased c.args.geometry (known c.args.disk.now) (known c.sync.new.self) = based c.args.geometry _ _ _ c.in_ok-clear.ensures.clears
    (record { contents = synced.contents; settled = synced.settled; writes = synced.writes; goes = synced.goes; cause = synced.cause }) in
    Makes-not_started c.args.geometry _ _ _ c.write_super.result (Err c.in_err-write.field-0.0) _ (g.met.D.Disk.left_now c.args.disk.now) (g.met.D.Disk.left_now c.sync.new.self) refl c.from_residual-in_err-write.ensures.0 c.requires.sizes c.requires.room (g.met.D.Disk.reads_whole c.args.disk.now) is_based
    (record { written = written.written; writes = written.writes; goes = written.goes; cause = written.cause })

pub returns-clause-makes : goal.returns-clause-makes
returns-clause-makes g c =
    let known = g.D.Disk.known in
    let synced = c.in_ok-sync.ensures in
    let written = c.in_ok-write.ensures in
    let last = c.sync-2.ensures in
    let is_based : IsBased c.args.geometry (known c.args.disk.now) (known c.sync.new.self) = based c.args.geometry _ _ _ c.in_ok-clear.ensures.clears
    (record { contents = synced.contents; settled = synced.settled; writes = synced.writes; goes = synced.goes; cause = synced.cause }) in
    Makes-all c.args.geometry _ _ _ _ c.write_super.result _ (g.met.D.Disk.left_now c.args.disk.now) (g.met.D.Disk.left_now c.sync.new.self) c.write_super.ensures c.requires.room (g.met.D.Disk.reads_whole c.args.disk.now) is_based
    (record { written = written.written; writes = written.writes; goes = written.goes; cause = written.cause })
    (record { contents = last.contents; settled = last.settled; writes = last.writes; goes = last.goes; cause = last.cause })
