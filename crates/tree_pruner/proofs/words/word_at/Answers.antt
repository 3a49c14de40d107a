use Rattle.std.proofs.Common.{sym}
use Rattle.tree_pruner.proofs.Nodes.{word_in}
use Rattle.tree_pruner.proofs.words.word_at.Goals as goal

pub returns : goal.returns
returns g c = sym (word_in _ c.args.node c.args.i c.load.result c.requires.within c.load.ensures)
