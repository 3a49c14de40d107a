use Rattle.tree_builder.specs.Ways.{MakesNodes}
use Rattle.tree_builder.proofs.building.make_nodes.Given as goal

abbrev pub invariant-loop-level : goal.invariant-loop-level
invariant-loop-level g l =
    MakesNodes (g.R.Runs.runs l.runs) l.fn.way.leaf l.level l.fn.pool l.pool (g.M.Memory.known l.fn.memory) (g.M.Memory.known l.memory) l.made
