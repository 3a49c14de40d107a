use Rattle.std.proofs.Common.{◌≡◌, ◌<◌, ◌≤◌, sym, ap, ◌∙◌, subst, arith}
use Rattle.nesc_base.specs.Geometry.{area_from}
use Rattle.host_journal.specs.Journal as value
use Rattle.host_journal.specs.Staged.{MayStage}
use Rattle.host_journal.proofs.Belonging.{rests_staged}
use Rattle.disk_tests.proofs.journal.commit_on.Goals as goal

pub commit-requires : goal.commit-requires
commit-requires g c =
    let is = c.in-Ok.ensures.started ∙ ap (λ (j : value.Journal). value.started_anew j) c.in_ok-journal.ensures in
    rests_staged c.start.new.self c.stage.new.self 273 c.block.result _ c.stage.ensures
    (subst (λ (j : value.Journal). MayStage j.geometry 273) (sym is) (omega arith, omega arith))
    (subst (λ (j : value.Journal). area_from j.geometry ≤ 273 → j.count < j.geometry.slack) (sym is) (λ from. omega arith))
    c.in-Ok.ensures.rests
