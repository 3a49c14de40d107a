use Rattle.std.proofs.Common.{ap, ◌∙◌, sym, arith, ◌≡◌, ◌*◌}
use Rattle.std.proofs.lemmas.List.{take_all}
use Rattle.nesc_base.specs.BlockText.{repeated, times}
use Rattle.nesc_base.proofs.Periods.{take-times}
use Rattle.nesc_base.proofs.block.Block.repeated.Goals as goal

pub loop-k-preserved : goal.loop-k-preserved
loop-k-preserved c =
    rw c.copy_from_slice.ensures.after (take-times c.loop-k.k c.loop-k.all c.args.bytes.now c.loop-k.invariant.0 c.told-bytes (omega arith) c.loop-k.invariant.1)

pub returns : goal.returns
unfolding repeated
returns c =
    let all : c.loop-k.k ≡ 128 = omega arith in
    ap (λ bytes. record { 0 = bytes }) (sym (take_all (c.loop-k.k * 8) c.loop-k.all (omega arith)) ∙ c.loop-k.invariant.1 ∙ ap (λ n. times n c.args.bytes.now) all)
