use Rattle.std.proofs.Common.{◌+◌, ◌-◌, subst}
use Rattle.block_map.specs.Map.{BlockMap, HoldsNoneFrom, IsLastHeld}
use Rattle.block_map.proofs.Among.{last_held}
use Rattle.block_map.proofs.map.BlockMap.last_held.Goals as goal

pub returns-in_err-run : goal.returns-in_err-run
returns-in_err-run c =
    let n = c.args.file.0 in
    let none = c.in_err-run.ensures in
    rw c.from_residual.ensures
    (subst (λ (m : BlockMap). HoldsNoneFrom m n 0) c.self.view_is (λ v past at owned. none v past at ((c.self.invariant.same n v at).1 owned)))

pub returns : goal.returns
returns c =
    let n = c.args.file.0 in
    let run = c.in_ok-run.run' in
    subst (λ (m : BlockMap). IsLastHeld m n (run.first + (run.count - 1)) (run.place + (run.count - 1))) c.self.view_is
    (last_held _ n run c.self.invariant.rising c.self.invariant.same c.in_ok-run.ensures)
