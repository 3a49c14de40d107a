use Rattle.std.proofs.Common.{◌-◌, ◌+◌, sym, arith}
use Rattle.image_tools.proofs.Clearing.{Clears-same, Clears-then}
use Rattle.image_tools.proofs.Zeros.{range_with_len-more}
use Rattle.image_tools.proofs.making.clear_run.Goals as goal

pub loop-at-preserved : goal.loop-at-preserved
loop-at-preserved g c = record {
  clears = Clears-same _ _ _ _ _ (sym (range_with_len-more c.args.from (c.loop-at.at - c.args.from) (c.loop-at.at + 1 - c.args.from) c.loop-at.at (omega arith) (omega arith)))
      (Clears-then _ _ _ _ _ _ c.loop-at.invariant.clears c.in_ok-write_zeros.ensures.clears);
  keeps = g.met.D.Disk.keeps_on _ _ _ c.loop-at.invariant.keeps c.in_ok-write_zeros.ensures.keeps;
}
