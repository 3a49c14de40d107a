use Rattle.std.proofs.Common.{◌+◌, ◌∙◌, length, refl, arith}
use Rattle.std.proofs.lemmas.List.{length-set}
use Rattle.nesc_base.specs.Disk.{Known}
use Rattle.host_journal.proofs.DiskReads.{list_all, list_more, read_here, read_nothing, read_well, reads_on}
use Rattle.host_journal.proofs.replay.read_list.Goals as goal

pub loop-b-init : goal.loop-b-init
loop-b-init g c = record {
  long = refl;
  read = λ tells i below. absurd (omega arith);
  reads = read_nothing (g.D.Disk.known c.args.disk.now);
  keeps = g.met.D.Disk.keeps_itself c.args.disk.now;
}

pub loop-b-preserved : goal.loop-b-preserved
loop-b-preserved g c =
    let old : Known = g.D.Disk.known c.args.disk.now in
    let now : Known = g.D.Disk.known c.loop-b.disk in
    let new : Known = g.D.Disk.known c.read.new.self in
    let read = c.in_ok-read.ensures in
    record {
      long = length-set c.loop-b.list c.loop-b.b c.read.new.into ∙ c.loop-b.invariant.long;
      read = λ tells. list_more c.loop-b.list old.contents c.args.list_at c.loop-b.b c.read.new.into (omega arith) (c.loop-b.invariant.read tells)
          (read_here old now (c.args.list_at + c.loop-b.b) c.read.new.into c.loop-b.invariant.reads tells read.block);
      reads = read_well old new _ (reads_on old now new _ _ c.loop-b.invariant.reads (record { goes = read.goes; unchanged = read.unchanged; cause = read.cause }));
      keeps = g.met.D.Disk.keeps_on _ _ _ c.loop-b.invariant.keeps read.keeps;
    }

pub returns-clause-list : goal.returns-clause-list
returns-clause-list g c tells = list_all c.loop-b.list (g.D.Disk.known c.args.disk.now).contents c.args.list_at (length c.args.list.now) c.loop-b.invariant.long (λ i below. c.loop-b.invariant.read tells i (omega arith))
