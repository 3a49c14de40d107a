use Rattle.std.proofs.Common.{◌≡◌, Bool, List, Ok, Err, refl, subst, rules}
use Rattle.nesc_base.specs.declared.geometry.Geometry.{Geometry}
use Rattle.nesc_base.specs.Disk.{Known}
use Rattle.host_journal.specs.Replaying.{ClosesFirst, ClosesOthers}
use Rattle.host_journal.proofs.Replayed.{HasFailed, closes_behind, replays_all, replays_failed, replays_stopped, replays_unread}
use Rattle.host_journal.proofs.Ways.{IsLawful}
use Rattle.host_journal.proofs.replay.Replay.run.Given.{Over}
use Rattle.host_journal.proofs.replay.Replay.run.Goals as goal

-- what every disk says
laws : (g : Over) (disk : g.row.D.Denot) → IsLawful (g.D.Disk.known disk)
laws g disk =
    let law = g.met.D.Disk in
    record { left_now = law.left_now disk; by_now = λ tells k image before left. law.left_by_now disk k image tells before left; whole = law.reads_whole disk }

pub returns-in_err-opened-clause-replays : goal.returns-in_err-opened-clause-replays
returns-in_err-opened-clause-replays g c =
    let told : HasFailed c.from_residual.result = search rules in
    replays_unread c.args.self.now.geometry (g.D.Disk.known c.args.disk.now) (g.D.Disk.known c.read_gates.new.disk) c.from_residual.result _ (laws g c.args.disk.now) told refl c.in_err-opened.ensures.reads

pub returns-in_err-close_first-clause-replays : goal.returns-in_err-close_first-clause-replays
returns-in_err-close_first-clause-replays g c =
    let geometry : Geometry = c.args.self.now.geometry in
    let old : Known = g.D.Disk.known c.args.disk.now in
    let read : Known = g.D.Disk.known c.read_gates.new.disk in
    let new : Known = g.D.Disk.known c.close_first.new.disk in
    let same : c.close_first.result ≡ c.from_residual-in_err-close_first.result = search rules in
    replays_stopped geometry old new c.from_residual-in_err-close_first.result c.from_residual-in_err-close_first.ensures.0
    (closes_behind geometry old read new _ c.from_residual-in_err-close_first.result (laws g c.args.disk.now) c.in_ok-opened.ensures.reads
    (subst (ClosesFirst geometry read new) same c.close_first.ensures.closes))

pub returns-in_err-close_others-clause-replays : goal.returns-in_err-close_others-clause-replays
returns-in_err-close_others-clause-replays g c =
    let geometry : Geometry = c.args.self.now.geometry in
    let gates : List Bool = c.in_ok-opened.opened in
    let old : Known = g.D.Disk.known c.args.disk.now in
    let read : Known = g.D.Disk.known c.read_gates.new.disk in
    let mid : Known = g.D.Disk.known c.close_first.new.disk in
    let new : Known = g.D.Disk.known c.close_others.new.disk in
    let first : ClosesFirst geometry old mid (Ok tt) = closes_behind geometry old read mid _ (Ok tt) (laws g c.args.disk.now) c.in_ok-opened.ensures.reads c.in_ok-close_first.ensures.closes in
    let closes : ClosesOthers geometry gates mid new (Err c.in_err-close_others.field-0.0) = rw c.close_first.ensures.geometry at c.in_err-close_others.ensures.closes in
    let told : HasFailed c.from_residual-in_err-close_others.result = search rules in
    replays_failed geometry gates old mid new c.requires.ready.sizes c.in_ok-opened.ensures.gates (laws g c.close_first.new.disk) first _ c.from_residual-in_err-close_others.result _ told refl closes closes.cause

pub returns-clause-replays : goal.returns-clause-replays
returns-clause-replays g c =
    let geometry : Geometry = c.args.self.now.geometry in
    let gates : List Bool = c.in_ok-opened.opened in
    let old : Known = g.D.Disk.known c.args.disk.now in
    let read : Known = g.D.Disk.known c.read_gates.new.disk in
    let mid : Known = g.D.Disk.known c.close_first.new.disk in
    let new : Known = g.D.Disk.known c.close_others.new.disk in
    let first : ClosesFirst geometry old mid (Ok tt) = closes_behind geometry old read mid _ (Ok tt) (laws g c.args.disk.now) c.in_ok-opened.ensures.reads c.in_ok-close_first.ensures.closes in
    let closes : ClosesOthers geometry gates mid new (Ok tt) = rw c.close_first.ensures.geometry at c.in_ok-close_others.ensures.closes in
    replays_all geometry gates old mid new c.requires.ready.sizes c.in_ok-opened.ensures.gates (laws g c.close_first.new.disk) first closes
