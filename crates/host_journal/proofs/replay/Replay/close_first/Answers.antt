use Rattle.std.proofs.Common.{◌≡◌, ◌∙◌, ℕ, Bool, List, Ok, Err, get_or, refl, sym, arith, rules}
use Rattle.std.proofs.lemmas.Option.{get_or_from_slice_get}
use Rattle.nesc_base.specs.declared.block.Block.{Block}
use Rattle.nesc_base.specs.declared.geometry.Geometry.{Geometry}
use Rattle.nesc_base.specs.Disk.{Known}
use Rattle.nesc_base.specs.Geometry.{slot_at}
use Rattle.nesc_base.proofs.Causes.{cause_on}
use Rattle.nesc_base.proofs.DiskCalls.{goes_on}
use Rattle.slot_layout.specs.Gate.{is_open}
use Rattle.slot_layout.specs.Slots.{gate}
use Rattle.host_journal.specs.Replaying.{AreGates, BringsHome, IsSourced}
use Rattle.host_journal.proofs.Closing.{writes_synced}
use Rattle.host_journal.proofs.DiskReads.{read_nothing, read_well, reads_as}
use Rattle.host_journal.proofs.Replayed.{HasFailed, IsHome, IsJudged, first_failed, closes_first, none_closed, closes_unjudged, is_home, way_first, way_home}
use Rattle.host_journal.proofs.Stretches.{Syncs}
use Rattle.host_journal.proofs.Ways.{IsLawful}
use Rattle.host_journal.proofs.replay.Replay.close_first.Goals as goal
use Rattle.host_journal.proofs.replay.Replay.close_first.Given.{Over}
use Rattle.host_journal.proofs.replay.Replay.close_first.Goals.{After-write_home, After-write_synced}

-- whether the first gate is open is what was read of it
first_is : (geometry : Geometry) (image : List Block) (gates : List Bool) (d is : Bool) → AreGates geometry image gates → get_or gates 0 d ≡ is → is_open (gate geometry image 1) ≡ is
first_is geometry image gates d is known read =
    sym (get_or_from_slice_get gates 0 (is_open (gate geometry image 1)) d (known 1 (omega arith) (omega arith))) ∙ read

pub returns-then-not-opened-clause-closes : goal.returns-then-not-opened-clause-closes
returns-then-not-opened-clause-closes g c =
    let law = g.met.D.Disk in
    let disk = c.args.disk.now in
    let old : Known = g.D.Disk.known disk in
    let laws : IsLawful old = record { left_now = law.left_now disk; by_now = λ tells k image before left. law.left_by_now disk k image tells before left; whole = law.reads_whole disk } in
    none_closed c.args.self.now.geometry old laws (read_nothing old) (λ tells. first_is c.args.self.now.geometry old.contents c.args.opened.now _ _ (c.requires.gates tells) c.if-not-opened.true)

pub returns-in_err-judge-clause-closes : goal.returns-in_err-judge-clause-closes
returns-in_err-judge-clause-closes g c =
    let law = g.met.D.Disk in
    let disk = c.args.disk.now in
    let old : Known = g.D.Disk.known disk in
    let new : Known = g.D.Disk.known c.judge.new.disk in
    let laws : IsLawful old = record { left_now = law.left_now disk; by_now = λ tells k image before left. law.left_by_now disk k image tells before left; whole = law.reads_whole disk } in
    let same : c.judge.result ≡ c.from_residual.result = search rules in
    closes_unjudged c.args.self.now.geometry old new c.from_residual.result laws c.from_residual.ensures.0
    (reads_as old new (HasFailed c.judge.result) (HasFailed c.from_residual.result) (λ failed. same ∙ failed) c.judge.ensures.reads)
    (λ tells block is. c.judge.ensures.lacks tells block (same ∙ is))

-- what is known behind the judging
judged : (g : Over) (c : After-write_home g) → IsJudged c.args.self.now.geometry c.judge.new.self.sources.items (g.D.Disk.known c.args.disk.now) (g.D.Disk.known c.judge.new.disk)
judged g c =
    let law = g.met.D.Disk in
    let disk = c.args.disk.now in
    let late = c.judge.new.disk in
    let old : Known = g.D.Disk.known disk in
    let new : Known = g.D.Disk.known late in
    record {
      sizes = c.requires.ready.sizes;
      laws = record { left_now = law.left_now disk; by_now = λ tells k image before left. law.left_by_now disk k image tells before left; whole = law.reads_whole disk };
      late_laws = record { left_now = law.left_now late; by_now = λ tells k image before left. law.left_by_now late k image tells before left; whole = law.reads_whole late };
      enough = c.requires.enough;
      opened = λ tells. first_is c.args.self.now.geometry old.contents c.args.opened.now _ _ (c.requires.gates tells) c.if-not-opened.false;
      reads = read_well old new _ c.judge.ensures.reads;
      stand = c.in_ok-judge.ensures.judged;
    }

pub returns-in_err-write_home-clause-closes : goal.returns-in_err-write_home-clause-closes
returns-in_err-write_home-clause-closes g c =
    let geometry : Geometry = c.args.self.now.geometry in
    let sources : List ℕ = c.judge.new.self.sources.items in
    let old : Known = g.D.Disk.known c.args.disk.now in
    let mid : Known = g.D.Disk.known c.judge.new.disk in
    let new : Known = g.D.Disk.known c.write_home.new.disk in
    let is : IsJudged geometry sources old mid = judged g (goal.at.returns-in_err-write_home-clause-closes g c).After-write_home in
    let brings : BringsHome geometry sources mid new (Err c.in_err-write_home.field-0.0) = rw c.judge.ensures.geometry at c.in_err-write_home.ensures.brings in
    let told : HasFailed c.from_residual-in_err-write_home.result = search rules in
    first_failed geometry old new c.from_residual-in_err-write_home.result told (way_home geometry sources old mid is new brings.goes brings.writes)
    (cause_on old.faults mid.faults new.faults _ is.reads.cause.never_falls (record { never_falls = brings.cause.never_falls; rose = λ _. brings.cause.rose refl }))

pub returns-in_err-sync-clause-closes : goal.returns-in_err-sync-clause-closes
returns-in_err-sync-clause-closes g c =
    let geometry : Geometry = c.args.self.now.geometry in
    let sources : List ℕ = c.judge.new.self.sources.items in
    let old : Known = g.D.Disk.known c.args.disk.now in
    let mid : Known = g.D.Disk.known c.judge.new.disk in
    let home : Known = g.D.Disk.known c.write_home.new.disk in
    let new : Known = g.D.Disk.known c.sync.new.self in
    let is : IsJudged geometry sources old mid = judged g (goal.at.returns-in_err-sync-clause-closes g c).After-write_home in
    let brings : BringsHome geometry sources mid home (Ok tt) = rw c.judge.ensures.geometry at c.in_ok-write_home.ensures.brings in
    let sync = c.in_err-sync.ensures in
    let syncs : Syncs home new (Err c.in_err-sync.field-0.0) = record { contents = sync.contents; settled = sync.settled; writes = sync.writes; goes = sync.goes; cause = sync.cause } in
    let told : HasFailed c.from_residual-in_err-sync.result = search rules in
    first_failed geometry old new c.from_residual-in_err-sync.result told
    (way_home geometry sources old mid is new (goes_on mid home new brings.goes syncs.goes) (writes_synced (IsSourced geometry sources) mid home new _ brings.goes brings.writes syncs))
    (cause_on old.faults home.faults new.faults _ (omega (arith, is.reads.cause.never_falls, brings.cause.never_falls)) (record { never_falls = syncs.cause.never_falls; rose = λ _. syncs.cause.rose refl }))

-- what is known behind the second sync
home : (g : Over) (c : After-write_synced g) → IsJudged c.args.self.now.geometry c.judge.new.self.sources.items (g.D.Disk.known c.args.disk.now) (g.D.Disk.known c.judge.new.disk)
    → IsHome c.args.self.now.geometry (g.D.Disk.known c.args.disk.now) (g.D.Disk.known c.sync.new.self)
home g c is =
    let law = g.met.D.Disk in
    let geometry : Geometry = c.args.self.now.geometry in
    let sources : List ℕ = c.judge.new.self.sources.items in
    let late = c.sync.new.self in
    let old : Known = g.D.Disk.known c.args.disk.now in
    let mid : Known = g.D.Disk.known c.judge.new.disk in
    let written : Known = g.D.Disk.known c.write_home.new.disk in
    let new : Known = g.D.Disk.known late in
    let brings : BringsHome geometry sources mid written (Ok tt) = rw c.judge.ensures.geometry at c.in_ok-write_home.ensures.brings in
    let sync = c.in_ok-sync.ensures in
    is_home geometry sources old mid written new is brings
    (record { contents = sync.contents; settled = sync.settled; writes = sync.writes; goes = sync.goes; cause = sync.cause })
    (record { left_now = law.left_now late; by_now = λ tells k image before left. law.left_by_now late k image tells before left; whole = law.reads_whole late })

pub returns-in_err-write_synced-clause-closes : goal.returns-in_err-write_synced-clause-closes
returns-in_err-write_synced-clause-closes g c =
    let geometry : Geometry = c.args.self.now.geometry in
    let old : Known = g.D.Disk.known c.args.disk.now in
    let mid : Known = g.D.Disk.known c.sync.new.self in
    let new : Known = g.D.Disk.known c.write_synced.new.disk in
    let is : IsHome geometry old mid = home g (goal.at.returns-in_err-write_synced-clause-closes g c).After-write_synced (judged g (goal.at.returns-in_err-write_synced-clause-closes g c).After-write_home) in
    let writes = c.in_err-write_synced.ensures.writes_out in
    let first : c.slot_at.result ≡ slot_at geometry 1 = rw c.judge.ensures.geometry at c.slot_at.ensures in
    let told : HasFailed c.from_residual-in_err-write_synced.result = search rules in
    first_failed geometry old new c.from_residual-in_err-write_synced.result told (way_first geometry old mid is c.slot_at.result c.zero.result new first _ writes)
    (cause_on old.faults mid.faults new.faults _ is.never_falls (record { never_falls = writes.cause.never_falls; rose = λ _. writes.cause.rose refl }))

pub returns-clause-closes : goal.returns-clause-closes
returns-clause-closes g c =
    let geometry : Geometry = c.args.self.now.geometry in
    let old : Known = g.D.Disk.known c.args.disk.now in
    let mid : Known = g.D.Disk.known c.sync.new.self in
    let new : Known = g.D.Disk.known c.write_synced.new.disk in
    let is : IsHome geometry old mid = home g (goal.at.returns-clause-closes g c).After-write_synced (judged g (goal.at.returns-clause-closes g c).After-write_home) in
    let first : c.slot_at.result ≡ slot_at geometry 1 = rw c.judge.ensures.geometry at c.slot_at.ensures in
    closes_first geometry old mid is c.slot_at.result c.zero.result new first c.zero.ensures c.in_ok-write_synced.ensures.writes_out c.in_ok-write_synced.ensures.settled
