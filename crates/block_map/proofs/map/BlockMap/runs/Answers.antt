use Rattle.std.proofs.Common.{subst}
use Rattle.block_map.specs.Map.{AreRunsIn, BlockMap}
use Rattle.block_map.proofs.map.BlockMap.runs.Goals as goal

pub returns : goal.returns
returns c =
    let n = c.args.file.0 in
    let same = c.self.invariant.same in
    let all = c.of_file.ensures in
    subst (λ (m : BlockMap). AreRunsIn m n c.of_file.result) c.self.view_is (record {
      are = all.are;
      each = λ v at. (λ owned. (all.each v at).0 ((same n v at).1 owned), λ within. (same n v at).0 ((all.each v at).1 within));
    })
