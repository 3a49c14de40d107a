use Rattle.std.proofs.Common.{◌∙◌}
use Rattle.file_layer.proofs.ReadBlocks.{reads_held, reads_zeros}
use Rattle.file_layer.proofs.files.Files.read_block.Goals as goal

pub returns-in_ok-read-clause-block : goal.returns-in_ok-read-clause-block
returns-in_ok-read-clause-block g c tells kept set places is shows =
    reads_held c.args.self.now c.args.journal.now.staged kept set places c.requires.rests.fits.layer shows c.args.file.0 c.args.v c.in-Some.place c.read.new.into c.in-Some.ensures
    (c.in_ok-read.ensures.block tells kept is)

pub returns-in_default-clause-block : goal.returns-in_default-clause-block
returns-in_default-clause-block g c tells kept set places is shows =
    c.zero-block.ensures ∙ reads_zeros c.args.self.now c.args.journal.now.staged kept set places c.requires.rests.fits.layer shows c.args.file.0 c.args.v c.in_default.ensures
