use Rattle.std.proofs.Common.{sym, ◌∙◌}
use Rattle.std.proofs.lemmas.Bool.{eq-eqb, eqb-true}
use Rattle.tree_pruner.proofs.Nodes.{first_in}
use Rattle.tree_pruner.proofs.words.is_inner.Goals as goal

pub returns-then-node-ne0 : goal.returns-then-node-ne0
returns-then-node-ne0 g c =
    let first = first_in _ c.args.node c.load.result c.load.ensures in
    (λ yes. (c.if-node-ne0.true, first ∙ eqb-true c.load.result 2 yes), λ inner. eq-eqb c.load.result 2 (sym first ∙ inner.1))
