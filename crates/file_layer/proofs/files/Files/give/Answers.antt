use Rattle.file_layer.proofs.Growing.{layer_with}
use Rattle.file_layer.proofs.files.Files.give.Goals as goal

pub mark-requires-clause-layer : goal.mark-requires-clause-layer
mark-requires-clause-layer c =
    layer_with c.args.self.now c.args.file c.args.v c.in_ok-at.at c.give.new.self c.requires.layer c.requires.used c.requires.below c.requires.unheld c.in_ok-at.ensures.0.free c.in_ok-at.ensures.1

pub returns-clause-layer : goal.returns-clause-layer
returns-clause-layer c =
    layer_with c.args.self.now c.args.file c.args.v c.in_ok-at.at c.give.new.self c.requires.layer c.requires.used c.requires.below c.requires.unheld c.in_ok-at.ensures.0.free c.in_ok-at.ensures.1
