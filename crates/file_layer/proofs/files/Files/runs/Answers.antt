use Rattle.file_layer.proofs.RunsAlike.{runs_alike}
use Rattle.file_layer.proofs.files.Files.runs.Goals as goal

pub returns-clause-answers : goal.returns-clause-answers
returns-clause-answers c = λ set places knows. runs_alike c.args.self.now set places c.requires knows c.args.file.0 _ c.runs.ensures
