use Rattle.std.proofs.Common.{arith}
use Rattle.file_layer.proofs.Putting.{puts_all, stages_begin, stages_next}
use Rattle.file_layer.proofs.files.Files.stage_each.Goals as goal

pub loop-k-init : goal.loop-k-init
loop-k-init c = stages_begin c.args.file.0 c.args.v c.args.blocks.now c.args.self.now c.args.journal.now c.requires.fits.sound

pub loop-k-preserved : goal.loop-k-preserved
loop-k-preserved c =
    stages_next c.args.file.0 c.args.v c.loop-k.k c.in-Some.place c.get.result c.args.blocks.now c.args.self.now c.args.journal.now c.loop-k.journal c.requires.fits c.loop-k.invariant c.requires.used
    c.in-Some.ensures c.get.ensures c.stage.new.self c.requires.room c.stage.ensures

pub returns-clause-puts : goal.returns-clause-puts
returns-clause-puts c marks =
    puts_all marks c.args.file.0 c.args.v c.loop-k.k c.args.blocks.now c.args.self.now c.args.journal.now c.loop-k.journal c.loop-k.invariant (omega arith)
