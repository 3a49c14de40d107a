use Rattle.std.proofs.Common.{◌≡◌, ◌<◌, ◌≤◌, sym, ap, ◌∙◌, subst, arith}
use Rattle.nesc_base.specs.Geometry.{area_from}
use Rattle.host_journal.specs.Journal as value
use Rattle.host_journal.specs.Staged.{MayStage}
use Rattle.host_journal.proofs.Belonging.{rests_staged}
use Rattle.disk_tests.proofs.journal.commit_three_on.Goals as goal

pub commit-requires : goal.commit-requires
commit-requires g c =
    let is = c.in-Ok.ensures.started ∙ ap (λ (j : value.Journal). value.started_anew j) c.in_ok-journal.ensures in
    let one = c.stage.ensures ∙ ap (λ (j : value.Journal). value.staging j 275 c.block.result) is in
    let two = c.stage-2.ensures ∙ ap (λ (j : value.Journal). value.staging j 274 c.block-2.result) one in
    rests_staged c.stage-2.new.self c.stage-3.new.self 273 c.block-3.result _ c.stage-3.ensures
    (subst (λ (j : value.Journal). MayStage j.geometry 273) (sym two) (omega arith, omega arith))
    (subst (λ (j : value.Journal). area_from j.geometry ≤ 273 → j.count < j.geometry.slack) (sym two) (λ from. omega arith))
    (rests_staged c.stage.new.self c.stage-2.new.self 274 c.block-2.result _ c.stage-2.ensures
    (subst (λ (j : value.Journal). MayStage j.geometry 274) (sym one) (omega arith, omega arith))
    (subst (λ (j : value.Journal). area_from j.geometry ≤ 274 → j.count < j.geometry.slack) (sym one) (λ from. omega arith))
    (rests_staged c.start.new.self c.stage.new.self 275 c.block.result _ c.stage.ensures
    (subst (λ (j : value.Journal). MayStage j.geometry 275) (sym is) (omega arith, omega arith))
    (subst (λ (j : value.Journal). area_from j.geometry ≤ 275 → j.count < j.geometry.slack) (sym is) (λ from. omega arith))
    c.in-Ok.ensures.rests))
