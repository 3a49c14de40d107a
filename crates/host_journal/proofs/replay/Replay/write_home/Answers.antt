use Rattle.std.proofs.Common.{◌≡◌, ◌+◌, ℕ, refl, sym, ap, ◌∙◌, arith}
use Rattle.std.specs.Prelude.{slice_index}
use Rattle.std.proofs.lemmas.List.{get_or_read}
use Rattle.nesc_base.specs.Disk.{Known}
use Rattle.nesc_base.proofs.DiskCalls.{goes_on}
use Rattle.host_journal.proofs.Homing.{BringsOne, brings_failed, some_more, some_skipped, writes_one}
use Rattle.host_journal.proofs.DiskReads.{HasRead, read_well}
use Rattle.host_journal.proofs.replay.Replay.write_home.Goals as goal
use Rattle.host_journal.proofs.replay.Replay.write_home.Goals.{then-source-ne0+in_ok-read+in_ok-write, else-source-ne0}

pub returns-in_err-write-clause-brings : goal.returns-in_err-write-clause-brings
returns-in_err-write-clause-brings g c =
    let old : Known = g.D.Disk.known c.args.disk.now in
    let now : Known = g.D.Disk.known c.loop-i.disk in
    let mid : Known = g.D.Disk.known c.read.new.self in
    let new : Known = g.D.Disk.known c.write.new.self in
    let geometry = c.args.self.now.geometry in
    let sources = c.args.self.now.sources.items in
    let i : ℕ = c.loop-i.i in
    let source : ℕ = c.index-source.result.now in
    let place : ℕ = c.table_at-table_at.result + i in
    let some = c.loop-i.invariant.some in
    let read = c.in_ok-read.ensures in
    let write = c.in_err-write.ensures in
    let from : source ≡ slice_index sources i = get_or_read sources _ _ (omega (arith, c.args.self.now.sources.ok.0)) c.index-source.ensures 0 in
    let reads : HasRead now mid = read_well now mid _ (record { goes = read.goes; unchanged = read.unchanged; cause = read.cause }) in
    let one : BringsOne geometry i source place c.read.new.into now mid new = record {
      reads = reads;
      there = read.block;
      goes = write.goes;
      writes = write.writes;
      never_falls = write.cause.never_falls;
    } in
    brings_failed geometry sources old mid new _ _ c.from_residual-in_err-write.ensures.0 refl (goes_on old mid new (goes_on old now mid some.goes reads.goes) write.goes)
    (writes_one geometry sources i source place c.read.new.into old now mid new (λ tells k image before left. g.met.D.Disk.left_by_now c.loop-i.disk k image tells before left) (omega arith) from
    (ap (λ n. n + i) c.table_at-table_at.ensures) some one)
    (omega (arith, some.never_falls, reads.cause.never_falls)) write.cause

pub loop-i-preserved : goal.loop-i-preserved
loop-i-preserved g c =
    let old : Known = g.D.Disk.known c.args.disk.now in
    let now : Known = g.D.Disk.known c.loop-i.disk in
    let geometry = c.args.self.now.geometry in
    let sources = c.args.self.now.sources.items in
    let i : ℕ = c.loop-i.i in
    let source : ℕ = c.index-source.result.now in
    let place : ℕ = c.table_at-table_at.result + i in
    let some = c.loop-i.invariant.some in
    let from : source ≡ slice_index sources i = get_or_read sources _ _ (omega (arith, c.args.self.now.sources.ok.0)) c.index-source.ensures 0 in
    elim c.if-source-ne0.branch [
      | then-source-ne0+in_ok-read+in_ok-write w ↦
          let mid : Known = g.D.Disk.known w.read.new.self in
          let new : Known = g.D.Disk.known w.write.new.self in
          let read = w.in_ok-read.ensures in
          let write = w.in_ok-write.ensures in
          let reads : HasRead now mid = read_well now mid _ (record { goes = read.goes; unchanged = read.unchanged; cause = read.cause }) in
          let one : BringsOne geometry i source place w.read.new.into now mid new = record {
            reads = reads;
            there = read.block;
            goes = write.goes;
            writes = write.writes;
            never_falls = write.cause.never_falls;
          } in
          rw w.disk-is (record {
            some = some_more geometry sources i (i + 1) source place w.read.new.into old now mid new (λ tells k image before left. g.met.D.Disk.left_by_now c.loop-i.disk k image tells before left)
                (omega arith) (omega (arith, from, c.requires.low i)) from (ap (λ n. n + i) c.table_at-table_at.ensures) refl
                (λ tells. omega (arith, g.met.D.Disk.reads_whole c.args.disk.now tells)) some one write.written;
            keeps = g.met.D.Disk.keeps_on _ _ _ c.loop-i.invariant.keeps (g.met.D.Disk.keeps_on _ _ _ read.keeps write.keeps);
          })
      | else-source-ne0 w ↦
          rw w.disk-is (record {
            some = some_skipped geometry sources i (i + 1) old now refl (sym from ∙ w.if-source-ne0.false) some;
            keeps = c.loop-i.invariant.keeps;
          })
    ]
