use Rattle.file_layer.proofs.StagedMap.{StagesFirst}
use Rattle.file_layer.proofs.files.Files.stage_map.Given as goal

abbrev pub invariant-loop-b : goal.invariant-loop-b
invariant-loop-b l = StagesFirst l.self l.touched.marks l.b l.initial.journal l.journal
