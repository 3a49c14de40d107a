use Rattle.std.proofs.Common.{map, rules}
use Rattle.std.proofs.lemmas.List.{length-map}
use Rattle.block_map.specs.declared.held_runs.HeldRun.{HeldRun}
use Rattle.block_map.proofs.OfFile.{few_runs}
use Rattle.block_map.proofs.held_runs.FileRunsRuns.count.Goals as goal

pub overflow_cast-result : goal.overflow_cast-result
overflow_cast-result c =
    let few = few_runs (map (λ (held : HeldRun). held.run) c.self.inside.runs.now) c.self.invariant in
    let size = length-map c.self.inside.runs.now (λ (held : HeldRun). held.run) in
    search rules
