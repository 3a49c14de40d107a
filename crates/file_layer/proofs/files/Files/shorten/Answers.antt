-- Once the blocks from the length on are given back, the map blocks that are marked are staged.
use Rattle.file_layer.proofs.Shortening.{forgets_shortened, knows_shortened, leads_shortened, stages_shortened}
use Rattle.file_layer.proofs.files.Files.shorten.Goals as goal

pub returns-clause-leads : goal.returns-clause-leads
returns-clause-leads c =
    leads_shortened c.args.file.0 c.args.length c.args.self.now c.give_back_from-count.new.self c.args.journal.now c.give_back_from-count.new.journal c.stage_map.new.journal c.give_back_from-count.new.touched.marks c.requires.fits c.give_back_from-count.ensures.fits c.requires.used c.give_back_from-count.ensures.gives c.give_back_from-count.ensures.gone c.stage_map.ensures.stages

pub returns-clause-knows : goal.returns-clause-knows
returns-clause-knows c =
    knows_shortened c.args.file.0 c.args.length c.args.self.now c.give_back_from-count.new.self c.args.journal.now c.give_back_from-count.new.journal c.stage_map.new.journal c.give_back_from-count.new.touched.marks c.requires.fits c.give_back_from-count.ensures.fits c.requires.used c.give_back_from-count.ensures.gives c.give_back_from-count.ensures.gone

pub returns-clause-stages : goal.returns-clause-stages
returns-clause-stages c =
    stages_shortened c.args.file.0 c.args.length c.args.self.now c.give_back_from-count.new.self c.args.journal.now c.give_back_from-count.new.journal c.stage_map.new.journal c.give_back_from-count.new.touched.marks c.requires.fits c.give_back_from-count.ensures.fits c.requires.used c.give_back_from-count.ensures.gives c.give_back_from-count.ensures.gone c.stage_map.ensures.stages

pub returns-clause-forgets : goal.returns-clause-forgets
returns-clause-forgets c =
    forgets_shortened c.args.file.0 c.args.length c.args.self.now c.give_back_from-count.new.self c.args.journal.now c.give_back_from-count.new.journal c.stage_map.new.journal c.give_back_from-count.new.touched.marks c.requires.fits c.give_back_from-count.ensures.fits c.requires.used c.give_back_from-count.ensures.gives c.give_back_from-count.ensures.gone c.stage_map.ensures.stages
