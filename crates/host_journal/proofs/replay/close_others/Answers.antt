use Rattle.std.proofs.Common.{◌≡◌, ◌+◌, ◌-◌, ◌<◌, ℕ, Bool, List, true, length, refl, arith}
use Rattle.nesc_base.specs.Disk.{Known}
use Rattle.nesc_base.specs.declared.geometry.Geometry.{Geometry}
use Rattle.slot_layout.proofs.Alike.{slot_below}
use Rattle.host_journal.proofs.Closing.{ClosesOne, closes_failed, closes_more, closes_skipped, closes_synced, closes_unsynced}
use Rattle.host_journal.proofs.replay.close_others.Goals as goal
use Rattle.host_journal.proofs.replay.close_others.Goals.{then-opened-k+in_ok-write, else-opened-k}

pub returns-in_err-write-clause-closes : goal.returns-in_err-write-clause-closes
returns-in_err-write-clause-closes g c =
    let geometry : Geometry = c.args.geometry in
    let gates : List Bool = c.args.opened.now in
    let k : ℕ = c.loop-k.k in
    let old : Known = g.D.Disk.known c.args.disk.now in
    let now : Known = g.D.Disk.known c.loop-k.disk in
    let new : Known = g.D.Disk.known c.write.new.self in
    let write = c.in_err-write.ensures in
    let one : ClosesOne geometry gates k (k - 1) c.slot_at.result now new = record {
      some = omega arith;
      most = omega arith;
      opened = c.if-opened-k.true;
      number = refl;
      there = c.slot_at.ensures;
      goes = write.goes;
      writes = write.writes;
      never_falls = write.cause.never_falls;
    } in
    closes_failed geometry gates k (k - 1) c.slot_at.result c.loop-k.closed old now new _ _ c.from_residual.ensures.0 refl c.loop-k.invariant.some one write.cause

pub loop-k-preserved : goal.loop-k-preserved
loop-k-preserved g c =
    let geometry : Geometry = c.args.geometry in
    let gates : List Bool = c.args.opened.now in
    let k : ℕ = c.loop-k.k in
    let old : Known = g.D.Disk.known c.args.disk.now in
    let now : Known = g.D.Disk.known c.loop-k.disk in
    elim c.if-opened-k.branch [
      | then-opened-k+in_ok-write w ↦
          let new : Known = g.D.Disk.known w.write.new.self in
          let write = w.in_ok-write.ensures in
          let one : ClosesOne geometry gates k (k - 1) w.slot_at.result now new = record {
            some = omega arith;
            most = omega arith;
            opened = w.if-opened-k.true;
            number = refl;
            there = w.slot_at.ensures;
            goes = write.goes;
            writes = write.writes;
            never_falls = write.cause.never_falls;
          } in
          let within : (old.tells ≡ true → w.slot_at.result < length old.contents) =
          λ tells. omega (arith, w.slot_at.ensures, slot_below geometry k (omega arith) (omega arith), g.met.D.Disk.reads_whole c.args.disk.now tells, c.requires.enough) in
          rw (w.disk-is, w.closed-is) (record {
            some = closes_more geometry gates k (k + 1) (k - 1) w.slot_at.result c.loop-k.closed w.zero.result old now new refl w.zero.ensures within c.loop-k.invariant.some one write.written;
            keeps = g.met.D.Disk.keeps_on _ _ _ c.loop-k.invariant.keeps write.keeps;
          })
      | else-opened-k w ↦
          rw (w.disk-is, w.closed-is) (record {
            some = closes_skipped geometry gates k (k + 1) (k - 1) c.loop-k.closed old now refl refl w.if-opened-k.false c.loop-k.invariant.some;
            keeps = c.loop-k.invariant.keeps;
          })
    ]

pub returns-then-closed-clause-closes : goal.returns-then-closed-clause-closes
returns-then-closed-clause-closes g c =
    let old : Known = g.D.Disk.known c.args.disk.now in
    let now : Known = g.D.Disk.known c.loop-k.disk in
    let new : Known = g.D.Disk.known c.sync.new.self in
    let sync = c.sync.ensures in
    closes_synced c.args.geometry c.args.opened.now c.loop-k.k c.loop-k.closed old now new c.sync.result (omega arith) c.loop-k.invariant.some
    (record { contents = sync.contents; settled = sync.settled; writes = sync.writes; goes = sync.goes; cause = sync.cause })

pub returns-else-closed-clause-closes : goal.returns-else-closed-clause-closes
returns-else-closed-clause-closes g c =
    closes_unsynced c.args.geometry c.args.opened.now c.loop-k.k c.loop-k.closed (g.D.Disk.known c.args.disk.now) (g.D.Disk.known c.loop-k.disk) (omega arith) c.if-closed.false c.loop-k.invariant.some
