use Rattle.std.proofs.Common.{◌-◌, take}
use Rattle.file_layer.specs.Layer.{lacking}
use Rattle.file_layer.proofs.Ending.{fits_still, leads_filled, stages_ends}
use Rattle.file_layer.proofs.files.Files.hold_to.Goals as goal

pub returns-clause-leads : goal.returns-clause-leads
returns-clause-leads c =
    let held = c.hold_each-count in
    leads_filled c.args.file.0 (take held.result (lacking c.args.self.now c.args.file.0 c.args.v (c.args.end - c.args.v))) held.new.touched.marks c.args.self.now held.new.self
    c.args.journal.now held.new.journal c.stage_map.new.journal
    (fits_still held.result held.new.touched.marks c.args.self.now held.new.self c.args.journal.now held.new.journal c.requires.fits held.ensures.grows held.ensures.goes)
    held.ensures.shows c.stage_map.ensures.stages

pub returns-clause-stages : goal.returns-clause-stages
returns-clause-stages c =
    let held = c.hold_each-count in
    stages_ends held.result held.new.touched.marks c.args.self.now held.new.self c.args.journal.now held.new.journal c.stage_map.new.journal held.ensures.grows held.ensures.stages c.stage_map.ensures.stages
