use Rattle.file_layer.proofs.Putting.{StagesTo}
use Rattle.file_layer.proofs.files.Files.stage_each.Given as goal

abbrev pub invariant-loop-k : goal.invariant-loop-k
invariant-loop-k l = StagesTo l.file.0 l.v l.k l.blocks l.self l.fn.journal l.journal
