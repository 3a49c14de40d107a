use Rattle.std.proofs.Common.{List, ◌-◌, map, take, drop, sym, subst}
use Rattle.nesc_base.specs.Runs.{AreRuns}
use Rattle.block_map.specs.declared.held_runs.HeldRun.{HeldRun}
use Rattle.block_map.specs.Runs.{AreRunsAmong}
use Rattle.block_map.proofs.OfFile.{are_among_of_file, are_of_file}
use Rattle.block_map.proofs.held_runs.HeldRuns.of_file.Goals as goal

pub invariant_of-result : goal.invariant_of-result
invariant_of-result c =
    let from = c.bounds_of-from.result.0 in
    let to = c.bounds_of-from.result.1 in
    subst (λ (xs : List HeldRun). AreRuns (map (λ held. held.run) (take (to - from) (drop from xs)))) (sym c.deref.ensures.value)
    (are_of_file c.args.self.now.runs.items c.args.file.0 from to c.requires c.bounds_of-from.ensures.each)

pub returns : goal.returns
returns c =
    let from = c.bounds_of-from.result.0 in
    let to = c.bounds_of-from.result.1 in
    let runs = c.args.self.now.runs.items in
    subst (λ (xs : List HeldRun). AreRunsAmong runs c.args.file.0 (map (λ held. held.run) (take (to - from) (drop from xs)))) (sym c.deref.ensures.value)
    (are_among_of_file runs c.args.file.0 from to c.requires c.bounds_of-from.ensures.each)
