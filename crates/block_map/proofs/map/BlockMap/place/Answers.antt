use Rattle.block_map.specs.Map.{BlockMap, IsUnheld, StandsAt}
use Rattle.std.proofs.Common.{MatchOption, subst}
use Rattle.block_map.proofs.Among.{either_case}
use Rattle.block_map.proofs.map.BlockMap.place.Goals as goal

pub returns : goal.returns
returns c =
    let n = c.args.file.0 in
    let v = c.args.v in
    let same = c.self.invariant.same in
    subst (λ (m : BlockMap). MatchOption c.place.result (IsUnheld m n v) (StandsAt m n v)) c.self.view_is
    (either_case c.place.result (λ none at owned. none at ((same n v at).1 owned)) (λ at among. (same n v at).0 among) c.place.ensures)
