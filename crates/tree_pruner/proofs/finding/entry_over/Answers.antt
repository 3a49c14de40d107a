use Rattle.std.proofs.Common.{arith, below_more}
use Rattle.tree_pruner.proofs.finding.entry_over.Goals as goal
use Rattle.tree_pruner.proofs.finding.entry_over.Goals.{else-first-block-via-then-first-block+else-block-first, else-first-block-via-else-first-block}

pub loop-i-preserved : goal.loop-i-preserved
loop-i-preserved g c = below_more _ _ c.loop-i.invariant (λ holds.
    let from = holds.from in
    let below = holds.below in
    elim c.else-first-block.branch [
      | else-first-block-via-then-first-block+else-block-first w ↦ omega arith
      | else-first-block-via-else-first-block w ↦ omega arith
    ])

pub returns : goal.returns
returns g c =
    let some = c.requires.way.some in
    let among = some.1 in
    absurd (c.loop-i.invariant some.0 (omega arith) some.2)
