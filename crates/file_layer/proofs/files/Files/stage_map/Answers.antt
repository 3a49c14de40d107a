use Rattle.std.proofs.Common.{◌<◌, refl, ◌∙◌, arith}
use Rattle.nesc_base.specs.Geometry.{map_blocks}
use Rattle.file_layer.proofs.StagedMap.{before_data, may_stage_map, stages_all, stages_marked, stages_none, stages_skipped}
use Rattle.file_layer.proofs.files.Files.stage_map.Goals as goal
use Rattle.file_layer.proofs.files.Files.stage_map.Goals.{else-touched-b, then-touched-b}

pub loop-b-init : goal.loop-b-init
loop-b-init c = stages_none _ _ _ c.requires.fits

pub stage-requires-clause-place : goal.stage-requires-clause-place
stage-requires-clause-place c =
    may_stage_map c.args.self.now.geometry _ c.map_at-map_at.result _ c.loop-b.b (c.loop-b.invariant.goes.same_geometry ∙ c.requires.fits.same) c.map_at-map_at.ensures refl (omega arith)

pub stage-requires-clause-room : goal.stage-requires-clause-room
stage-requires-clause-room c high =
    let low = before_data c.args.self.now.geometry _ c.map_at-map_at.result _ c.loop-b.b (c.loop-b.invariant.goes.same_geometry ∙ c.requires.fits.same) c.map_at-map_at.ensures refl (omega arith) in
    absurd (omega (arith, high, low))

pub loop-b-preserved : goal.loop-b-preserved
loop-b-preserved c =
    let below : c.loop-b.b < map_blocks c.args.self.now.geometry = omega arith in
    elim c.if-touched-b.branch [
      | then-touched-b w ↦ stages_marked c.args.self.now c.args.touched.now.marks c.loop-b.b _ c.map_at-map_at.result _ _ c.requires.fits refl c.map_at-map_at.ensures below c.loop-b.invariant
          _ _ w.if-touched-b.true w.map_block.ensures (w.journal-is ∙ w.stage.ensures)
      | else-touched-b w ↦ stages_skipped c.args.self.now c.args.touched.now.marks c.loop-b.b _ c.map_at-map_at.result _ _ c.requires.fits refl c.map_at-map_at.ensures below c.loop-b.invariant
          _ w.if-touched-b.false w.journal-is
    ]

pub returns-clause-stages : goal.returns-clause-stages
returns-clause-stages c = stages_all _ _ c.loop-b.b _ _ (omega arith) (omega arith) c.loop-b.invariant

pub returns-clause-goes : goal.returns-clause-goes
returns-clause-goes c = c.loop-b.invariant.goes
