use Rattle.std.proofs.Common.{arith}
use Rattle.text_kit.proofs.KnownLemmas.{Appends-more}
use Rattle.text_kit.proofs.WritesLemmas.{StaysLent-then}
use Rattle.text_kit.proofs.write.write_front.Goals as goal

pub loop-done-preserved : goal.loop-done-preserved
loop-done-preserved g c = record {
  within = omega (arith, c.in-Ok.ensures.within);
  taken = Appends-more _ _ _ _ _ _ c.args.text.now (omega arith) c.loop-done.invariant.taken c.in-Ok.ensures.first;
  never_falls = omega (arith, c.in-Ok.ensures.cause.never_falls);
  stays_lent = StaysLent-then _ _ _ c.loop-done.invariant.stays_lent c.in-Ok.ensures.lent;
}
