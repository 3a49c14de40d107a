use Rattle.file_layer.proofs.Known.{place_alike}
use Rattle.file_layer.proofs.files.Files.place.Goals as goal

pub returns-clause-answers : goal.returns-clause-answers
returns-clause-answers c = λ layer set places knows. place_alike c.args.self.now set places layer knows c.args.file.0 c.args.v c.place.result c.place.ensures
