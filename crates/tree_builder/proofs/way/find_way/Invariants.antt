use Rattle.tree_words.specs.Shown.{Layout, Shows}
use Rattle.tree_builder.specs.Ways.{GoesDown, IsNext}
use Rattle.tree_builder.proofs.way.find_way.Given as goal

abbrev pub invariant-loop-next : goal.invariant-loop-next
invariant-loop-next g l =
    let runs = g.R.Runs.runs l.runs in
    (layout : Layout) → Shows (g.M.Memory.known l.memory).words l.root runs layout
    → GoesDown runs layout l.v l.way × IsNext layout l.way l.next

abbrev pub decreases-loop-next : goal.decreases-loop-next
decreases-loop-next g l = l.way.lacking
