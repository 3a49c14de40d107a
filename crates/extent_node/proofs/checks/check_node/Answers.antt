use Rattle.std.proofs.Common.{◌<◌, ◌^◌, arith}
use Rattle.extent_node.proofs.Nodes.{entries_in, kept_node, kept_readable}
use Rattle.extent_node.proofs.checks.check_node.Goals as goal

pub returns-in-Ok-clause-node : goal.returns-in-Ok-clause-node
returns-in-Ok-clause-node c = (
  entries_in c.args.words.now,
  kept_node c.args.words.now c.args.memory_words c.args.area c.in-Ok.kind c.told-words c.in-Ok.ensures.1 c.in-Ok.ensures.0,
)

pub returns-in-Ok-clause-readable : goal.returns-in-Ok-clause-readable
returns-in-Ok-clause-readable c is =
    let small : c.args.memory_words < 2 ^ 32 = omega arith in
    let few : c.args.area.to < 2 ^ 32 = omega arith in
    kept_readable c.args.words.now c.args.memory_words c.args.area c.told-words small few c.in-Ok.ensures.1
