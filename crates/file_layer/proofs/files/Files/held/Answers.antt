use Rattle.std.proofs.Common.{sym, ◌∙◌}
use Rattle.file_layer.proofs.Known.{held_count_alike}
use Rattle.file_layer.proofs.files.Files.held.Goals as goal

pub returns : goal.returns
returns c = λ set places knows. c.held.ensures ∙ sym (held_count_alike c.args.self.now set places c.requires knows c.args.file.0)
