use Rattle.std.proofs.Common.{MatchOption, subst}
use Rattle.block_map.specs.Map.{BlockMap, HoldsNoneFrom, IsNextRun}
use Rattle.block_map.proofs.Among.{either_case, next_run}
use Rattle.block_map.proofs.map.BlockMap.next_run.Goals as goal

pub returns : goal.returns
returns c =
    let n = c.args.file.0 in
    let from = c.args.from in
    let same = c.self.invariant.same in
    subst (λ (m : BlockMap). MatchOption c.next.result (HoldsNoneFrom m n from) (IsNextRun m n from)) c.self.view_is
    (either_case c.next.result (λ none v past at owned. none v past at ((same n v at).1 owned)) (λ run is. next_run _ n from run c.self.invariant.rising same is) c.next.ensures)
