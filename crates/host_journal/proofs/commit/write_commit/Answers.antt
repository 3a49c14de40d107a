use Rattle.std.proofs.Common.{Err, refl}
use Rattle.host_journal.proofs.CommitCalls.{Commits-closed, Commits-not_held, Commits-not_lasting, Commits-not_listed, Commits-not_opened, Commits-not_sure, Commits-not_written, IsFilled, IsHome, IsOpened, Reaches, filled, home, opened}
use Rattle.host_journal.proofs.commit.write_commit.Goals as goal

pub returns-in_err-write_list-clause-commits : goal.returns-in_err-write_list-clause-commits
returns-in_err-write_list-clause-commits g c =
    let known = g.D.Disk.known in
    let law = g.met.D.Disk in
    let geometry = c.args.geometry in
    let store = c.args.staged.now in
    let targets = c.args.targets.now in
    let whole = law.reads_whole c.args.disk.now in
    Commits-not_listed geometry store targets c.requires.staged _ whole c.requires.enough _ (Err c.in_err-write_list.field-0.0) _ (law.left_now c.args.disk.now) refl c.from_residual.ensures.0 c.in_err-write_list.ensures.writes_out

pub returns-in_err-write_slot-clause-commits : goal.returns-in_err-write_slot-clause-commits
returns-in_err-write_slot-clause-commits g c =
    let known = g.D.Disk.known in
    let law = g.met.D.Disk in
    let geometry = c.args.geometry in
    let store = c.args.staged.now in
    let targets = c.args.targets.now in
    let whole = law.reads_whole c.args.disk.now in
    Commits-not_held geometry store targets c.requires.staged _ whole c.requires.enough _ _ (Err c.in_err-write_slot.field-0.0) _ (law.left_now c.args.disk.now) refl c.from_residual-in_err-write_slot.ensures.0
    c.in_ok-write_list.ensures.writes_out c.in_err-write_slot.ensures.writes_out

pub returns-in_err-sync-clause-commits : goal.returns-in_err-sync-clause-commits
returns-in_err-sync-clause-commits g c =
    let known = g.D.Disk.known in
    let law = g.met.D.Disk in
    let geometry = c.args.geometry in
    let store = c.args.staged.now in
    let targets = c.args.targets.now in
    let whole = law.reads_whole c.args.disk.now in
    let call = c.in_err-sync.ensures in
    Commits-not_sure geometry store targets c.requires.staged _ whole c.requires.enough _ _ _ (Err c.in_err-sync.field-0.0) _ (law.left_now c.args.disk.now) refl c.from_residual-in_err-sync.ensures.0
    c.in_ok-write_list.ensures.writes_out c.in_ok-write_slot.ensures.writes_out
    (record { contents = call.contents; settled = call.settled; writes = call.writes; goes = call.goes; cause = call.cause })

pub returns-in_err-write_synced-clause-commits : goal.returns-in_err-write_synced-clause-commits
returns-in_err-write_synced-clause-commits g c =
    let known = g.D.Disk.known in
    let law = g.met.D.Disk in
    let geometry = c.args.geometry in
    let store = c.args.staged.now in
    let targets = c.args.targets.now in
    let whole = law.reads_whole c.args.disk.now in
    let synced = c.in_ok-sync.ensures in
    let is_filled : Reaches geometry store.staged (IsFilled geometry) (known c.args.disk.now) (known c.sync.new.self) =
    filled geometry store targets c.requires.staged _ whole c.requires.enough _ _ _ (law.left_now c.args.disk.now) c.in_ok-write_list.ensures.writes_out c.in_ok-write_slot.ensures.writes_out
    (record { contents = synced.contents; settled = synced.settled; writes = synced.writes; goes = synced.goes; cause = synced.cause }) in
    Commits-not_opened geometry store targets c.requires.staged _ whole c.requires.enough _ _ c.slot_at.result c.open_gate.result (Err c.in_err-write_synced.field-0.0) _ (law.left_now c.sync.new.self) refl c.from_residual-in_err-write_synced.ensures.0
    is_filled c.slot_at.ensures c.in_err-write_synced.ensures.writes_out

pub returns-in_err-write_home-clause-commits : goal.returns-in_err-write_home-clause-commits
returns-in_err-write_home-clause-commits g c =
    let known = g.D.Disk.known in
    let law = g.met.D.Disk in
    let geometry = c.args.geometry in
    let store = c.args.staged.now in
    let targets = c.args.targets.now in
    let whole = law.reads_whole c.args.disk.now in
    let synced = c.in_ok-sync.ensures in
    let is_filled : Reaches geometry store.staged (IsFilled geometry) (known c.args.disk.now) (known c.sync.new.self) =
    filled geometry store targets c.requires.staged _ whole c.requires.enough _ _ _ (law.left_now c.args.disk.now) c.in_ok-write_list.ensures.writes_out c.in_ok-write_slot.ensures.writes_out
    (record { contents = synced.contents; settled = synced.settled; writes = synced.writes; goes = synced.goes; cause = synced.cause }) in
    let is_open : Reaches geometry store.staged (IsOpened geometry) (known c.args.disk.now) (known c.write_synced.new.disk) =
    opened geometry store targets c.requires.staged _ whole c.requires.enough _ _ c.slot_at.result c.open_gate.result (law.left_now c.sync.new.self) is_filled c.slot_at.ensures c.open_gate.ensures
    c.in_ok-write_synced.ensures.writes_out c.in_ok-write_synced.ensures.settled in
    Commits-not_written geometry store targets c.requires.staged _ whole c.requires.enough _ _ (Err c.in_err-write_home.field-0.0) _ (law.left_now c.write_synced.new.disk) refl c.from_residual-in_err-write_home.ensures.0 is_open c.in_err-write_home.ensures.writes_out

pub returns-in_err-sync-2-clause-commits : goal.returns-in_err-sync-2-clause-commits
returns-in_err-sync-2-clause-commits g c =
    let known = g.D.Disk.known in
    let law = g.met.D.Disk in
    let geometry = c.args.geometry in
    let store = c.args.staged.now in
    let targets = c.args.targets.now in
    let whole = law.reads_whole c.args.disk.now in
    let synced = c.in_ok-sync.ensures in
    let is_filled : Reaches geometry store.staged (IsFilled geometry) (known c.args.disk.now) (known c.sync.new.self) =
    filled geometry store targets c.requires.staged _ whole c.requires.enough _ _ _ (law.left_now c.args.disk.now) c.in_ok-write_list.ensures.writes_out c.in_ok-write_slot.ensures.writes_out
    (record { contents = synced.contents; settled = synced.settled; writes = synced.writes; goes = synced.goes; cause = synced.cause }) in
    let is_open : Reaches geometry store.staged (IsOpened geometry) (known c.args.disk.now) (known c.write_synced.new.disk) =
    opened geometry store targets c.requires.staged _ whole c.requires.enough _ _ c.slot_at.result c.open_gate.result (law.left_now c.sync.new.self) is_filled c.slot_at.ensures c.open_gate.ensures
    c.in_ok-write_synced.ensures.writes_out c.in_ok-write_synced.ensures.settled in
    let call = c.in_err-sync-2.ensures in
    Commits-not_lasting geometry store targets c.requires.staged _ whole c.requires.enough _ _ _ (Err c.in_err-sync-2.field-0.0) _ (law.left_now c.write_synced.new.disk) refl c.from_residual-in_err-sync-2.ensures.0 is_open c.in_ok-write_home.ensures.writes_out
    (record { contents = call.contents; settled = call.settled; writes = call.writes; goes = call.goes; cause = call.cause })

pub returns-clause-commits : goal.returns-clause-commits
returns-clause-commits g c =
    let known = g.D.Disk.known in
    let law = g.met.D.Disk in
    let geometry = c.args.geometry in
    let store = c.args.staged.now in
    let targets = c.args.targets.now in
    let whole = law.reads_whole c.args.disk.now in
    let synced = c.in_ok-sync.ensures in
    let is_filled : Reaches geometry store.staged (IsFilled geometry) (known c.args.disk.now) (known c.sync.new.self) =
    filled geometry store targets c.requires.staged _ whole c.requires.enough _ _ _ (law.left_now c.args.disk.now) c.in_ok-write_list.ensures.writes_out c.in_ok-write_slot.ensures.writes_out
    (record { contents = synced.contents; settled = synced.settled; writes = synced.writes; goes = synced.goes; cause = synced.cause }) in
    let is_open : Reaches geometry store.staged (IsOpened geometry) (known c.args.disk.now) (known c.write_synced.new.disk) =
    opened geometry store targets c.requires.staged _ whole c.requires.enough _ _ c.slot_at.result c.open_gate.result (law.left_now c.sync.new.self) is_filled c.slot_at.ensures c.open_gate.ensures
    c.in_ok-write_synced.ensures.writes_out c.in_ok-write_synced.ensures.settled in
    let lasts = c.in_ok-sync-2.ensures in
    let is_home : Reaches geometry store.staged (IsHome geometry store.staged) (known c.args.disk.now) (known c.sync-2.new.self) =
    home geometry store targets c.requires.staged _ whole c.requires.enough _ _ _ (law.left_now c.write_synced.new.disk) is_open c.in_ok-write_home.ensures.writes_out
    (record { contents = lasts.contents; settled = lasts.settled; writes = lasts.writes; goes = lasts.goes; cause = lasts.cause }) in
    Commits-closed geometry store targets c.requires.staged _ whole c.requires.enough _ _ c.slot_at-2.result c.zero.result _ (law.left_now c.sync-2.new.self) is_home c.slot_at-2.ensures c.zero.ensures
    c.write_synced-2.ensures.writes_out c.write_synced-2.ensures.settled

pub returns-clause-keeps : goal.returns-clause-keeps
returns-clause-keeps g c =
    let on = g.met.D.Disk.keeps_on in
    on _ _ _ c.in_ok-write_list.ensures.keeps
    (on _ _ _ c.in_ok-write_slot.ensures.keeps
    (on _ _ _ c.in_ok-sync.ensures.keeps
    (on _ _ _ c.in_ok-write_synced.ensures.keeps
    (on _ _ _ c.in_ok-write_home.ensures.keeps
    (on _ _ _ c.in_ok-sync-2.ensures.keeps c.write_synced-2.ensures.keeps)))))
