use Rattle.std.proofs.Common.{List, slice_get, ap, sym, subst, ◌∙◌, rules}
use Rattle.block_map.specs.declared.held_runs.HeldRun.{HeldRun}
use Rattle.std.proofs.lemmas.List.Sorted.{IsPartitionPoint-from_clause}
use Rattle.block_map.specs.Runs.{AreHeldRuns, begins_by}
use Rattle.block_map.proofs.Finding.{begins_false, begins_true, fails_behind, parted_by_begins, passes_before}
use Rattle.block_map.proofs.held_runs.HeldRuns.position.Goals as goal

pub returns-clause-by : goal.returns-clause-by
returns-clause-by c k held less stands =
    let n = c.args.file.0 in
    let v = c.args.v in
    let runs = c.deref.result.now in
    let are = subst AreHeldRuns (sym c.deref.ensures.value) c.requires in
    let there = ap (λ (xs : List HeldRun). slice_get xs k) c.deref.ensures.value ∙ stands in
    let point = IsPartitionPoint-from_clause (begins_by n v) _ _ c.partition_point.ensures.partitioned (parted_by_begins n v runs are) (λ a r q k. search rules) in
    begins_true n v held (passes_before (begins_by n v) runs _ k held point less there)

pub returns-clause-past : goal.returns-clause-past
returns-clause-past c k held least stands =
    let n = c.args.file.0 in
    let v = c.args.v in
    let runs = c.deref.result.now in
    let are = subst AreHeldRuns (sym c.deref.ensures.value) c.requires in
    let there = ap (λ (xs : List HeldRun). slice_get xs k) c.deref.ensures.value ∙ stands in
    let point = IsPartitionPoint-from_clause (begins_by n v) _ _ c.partition_point.ensures.partitioned (parted_by_begins n v runs are) (λ a r q k. search rules) in
    begins_false n v held (fails_behind (begins_by n v) runs _ k held point least there)
