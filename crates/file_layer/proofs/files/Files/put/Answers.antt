use Rattle.std.proofs.Common.{ℕ, ◌+◌, ◌-◌, length, subst}
use Rattle.file_layer.specs.Answers.{HasSpace}
use Rattle.file_layer.specs.Filling.{FillsBut, left_of}
use Rattle.file_layer.specs.Layer.{lacking}
use Rattle.file_layer.proofs.Ending.{fits_still, leads_put, stages_put}
use Rattle.file_layer.proofs.files.Files.put.Goals as goal

pub returns-clause-answers : goal.returns-clause-answers
returns-clause-answers c set places knows =
    subst (λ (n : ℕ). HasSpace c.args.self.now.geometry.blocks set c.args.file.0 c.args.v n c.in_ok-needed.needed) c.len.ensures.count (c.in_ok-needed.ensures.answers set places knows)

pub returns-clause-leads : goal.returns-clause-leads
returns-clause-leads c =
    let old = c.args.self.now in
    let new = c.give_each.new.self in
    let marks = c.give_each.new.touched.marks in
    let n = c.args.file.0 in
    let v = c.args.v in
    leads_put n v c.args.blocks.now marks old new c.args.journal.now c.stage_each.new.journal c.stage_map.new.journal c.requires.fits.layer
    (fits_still (length (lacking old n v (v + c.len-2.result - v))) marks old new c.args.journal.now c.stage_each.new.journal c.requires.fits c.give_each.ensures.grows c.stage_each.ensures.goes)
    (subst (λ (count : ℕ). FillsBut n (lacking old n v (v + count - v)) marks (left_of n v (v + count)) old c.args.journal.now.staged new c.args.journal.now.staged) c.len-2.ensures.count
    (c.give_each.ensures.shows c.args.journal.now.staged))
    (c.stage_each.ensures.puts marks) c.stage_map.ensures.stages

pub returns-clause-stages : goal.returns-clause-stages
returns-clause-stages c =
    let old = c.args.self.now in
    stages_put (length (lacking old c.args.file.0 c.args.v (c.args.v + c.len-2.result - c.args.v))) (length c.args.blocks.now) c.args.file.0 c.args.v c.give_each.new.touched.marks old c.give_each.new.self
    c.args.journal.now c.stage_each.new.journal c.stage_map.new.journal c.give_each.ensures.grows c.stage_each.ensures.stages c.stage_map.ensures.stages
