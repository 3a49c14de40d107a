use Rattle.tree_builder.proofs.Making.{makes_more, makes_none}
use Rattle.tree_builder.proofs.building.make_nodes.Goals as goal

pub loop-level-init : goal.loop-level-init
loop-level-init g c = makes_none (g.R.Runs.runs c.args.runs.now) c.args.way.leaf c.args.pool.now (g.M.Memory.known c.args.memory.now) 0

pub loop-level-preserved : goal.loop-level-preserved
loop-level-preserved g c =
    makes_more (g.R.Runs.runs c.args.runs.now) c.args.way.leaf c.loop-level.level c.args.pool.now c.loop-level.pool c.make_node-made.new.pool
    (g.M.Memory.known c.args.memory.now) (g.M.Memory.known c.loop-level.memory) (g.M.Memory.known c.make_node-made.new.memory)
    c.loop-level.made c.make_node-made.result c.words_of-words.result c.requires.room c.loop-level.invariant c.make_node-made.ensures.takes
    c.make_node-made.ensures.stores c.words_of-words.ensures
