use Rattle.std.proofs.Common.{sym, ◌∙◌}
use Rattle.file_layer.proofs.Known.{free_alike}
use Rattle.file_layer.proofs.files.Files.free.Goals as goal

pub returns-clause-answers : goal.returns-clause-answers
returns-clause-answers c = λ set places knows. c.free.ensures.count ∙ sym (free_alike c.args.self.now set places c.requires knows)
