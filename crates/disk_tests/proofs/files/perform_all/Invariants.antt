use Rattle.file_layer.specs.Changing.{GoesOn}
use Rattle.file_layer.specs.Layer.{Fits}
use Rattle.disk_tests.proofs.files.perform_all.Given as goal

abbrev pub invariant-loop-k : goal.invariant-loop-k
invariant-loop-k l = Fits l.files l.journal × GoesOn l.fn.journal l.journal
