use Rattle.extent_node.proofs.Nodes.{read_as}
use Rattle.extent_node.proofs.read.read_node.Goals as goal

pub returns : goal.returns
returns c =
    rw (c.node_of.ensures.kind, c.node_of.ensures.entries)
    (read_as c.args.words.now c.args.memory_words c.args.area c.in_ok-kind.kind c.in_ok-kind.ensures.node.0 _
    c.in_ok-kind.ensures.node.1 c.entries_in.ensures)
