use Rattle.std.proofs.Common.{◌-◌, ◌∙◌, arith}
use Rattle.std.proofs.lemmas.List.{length-set}
use Rattle.nesc_base.specs.Disk.{Known}
use Rattle.host_journal.proofs.DiskReads.{gates_more, read_here, read_well, reads_on}
use Rattle.host_journal.proofs.replay.read_gates.Goals as goal

pub loop-k-preserved : goal.loop-k-preserved
loop-k-preserved g c =
    let old : Known = g.D.Disk.known c.args.disk.now in
    let now : Known = g.D.Disk.known c.loop-k.disk in
    let new : Known = g.D.Disk.known c.read.new.self in
    let read = c.in_ok-read.ensures in
    record {
      long = length-set c.loop-k.opened (c.loop-k.k - 1) c.is_open.result ∙ c.loop-k.invariant.long;
      each = λ tells. gates_more c.args.geometry old.contents c.loop-k.opened c.loop-k.k (c.loop-k.k - 1) c.slot_at.result c.read.new.into c.is_open.result c.loop-k.invariant.long
          (omega arith) (omega arith) (omega arith) c.slot_at.ensures c.is_open.ensures (c.loop-k.invariant.each tells)
          (read_here old now c.slot_at.result c.read.new.into c.loop-k.invariant.reads tells read.block);
      reads = read_well old new _ (reads_on old now new _ _ c.loop-k.invariant.reads (record { goes = read.goes; unchanged = read.unchanged; cause = read.cause }));
      keeps = g.met.D.Disk.keeps_on _ _ _ c.loop-k.invariant.keeps read.keeps;
    }
