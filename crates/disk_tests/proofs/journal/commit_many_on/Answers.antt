use Rattle.std.proofs.Common.{◌≡◌, ◌+◌, ◌<◌, ◌≤◌, sym, ap, ◌∙◌, subst, arith}
use Rattle.nesc_base.specs.declared.geometry.Geometry.{Geometry}
use Rattle.nesc_base.specs.Geometry.{table_at, total}
use Rattle.host_journal.specs.Journal as value
use Rattle.host_journal.proofs.Belonging.{rests_staged}
use Rattle.disk_tests.proofs.journal.commit_many_on.Goals as goal

pub loop-k-preserved : goal.loop-k-preserved
loop-k-preserved c =
    let is = c.loop-k.invariant.1 in
    let at = c.area_from.result + c.loop-k.k in (
      rests_staged c.loop-k.journal c.stage.new.self at c.block.result _ c.stage.ensures
          (subst (λ (g : Geometry). (table_at g ≤ at) × (at < total g)) (sym is) (omega (arith, c.area_from.ensures), omega (arith, c.area_from.ensures, c.loop-k-test.true, c.min-k-end.ensures)))
          (λ from. omega (arith, c.room.ensures.room, c.if-room-eq0.false))
          c.loop-k.invariant.0,
      ap (λ (j : value.Journal). j.geometry) c.stage.ensures ∙ is,
    )
