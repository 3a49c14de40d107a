use Rattle.std.proofs.Common.{◌≡◌, ◌≤◌, true, false, List, leb, length, ltb, subst, sym, rules}
use Rattle.std.specs.List.Sorted.{IsPartitionPoint}
use Rattle.std.proofs.lemmas.List.Sorted.{IsPartitionPoint-from_clause}
use Rattle.block_map.specs.declared.held_runs.HeldRun.{HeldRun}
use Rattle.block_map.specs.Runs.{AreHeldRuns}
use Rattle.block_map.proofs.Finding.{IsBounded, bounds_each, bounds_rise, parted_below_file, parted_up_to_file}
use Rattle.block_map.proofs.held_runs.HeldRuns.bounds_of.Goals as goal

bounded : (c : goal.After-partition_point-to) → IsBounded c.args.self.now.runs.items c.args.file.0 c.partition_point-from.result c.partition_point-to.result
bounded c =
    let n = c.args.file.0 in
    let runs = c.args.self.now.runs.items in
    let first = c.deref.result.now in
    let second = c.deref-2.result.now in
    let first_is : first ≡ runs = c.deref.ensures.value in
    let second_is : second ≡ runs = c.deref-2.ensures.value in
    let low = IsPartitionPoint-from_clause (λ (h : HeldRun). ltb h.file.0 n) first _ c.partition_point-from.ensures.partitioned
    (parted_below_file n first (subst AreHeldRuns (sym first_is) c.requires)) (λ a r q k. search rules) in
    let high = IsPartitionPoint-from_clause (λ (h : HeldRun). leb h.file.0 n) second _ c.partition_point-to.ensures.partitioned
    (parted_up_to_file n second (subst AreHeldRuns (sym second_is) c.requires)) (λ a r q k. search rules) in
    record {
      low = subst (λ (xs : List HeldRun). IsPartitionPoint (λ h. ltb h.file.0 n ≡ true) (λ h. ltb h.file.0 n ≡ false) xs c.partition_point-from.result) first_is low;
      high = subst (λ (xs : List HeldRun). IsPartitionPoint (λ h. leb h.file.0 n ≡ true) (λ h. leb h.file.0 n ≡ false) xs c.partition_point-to.result) second_is high;
      from_within = subst (λ (xs : List HeldRun). c.partition_point-from.result ≤ length xs) first_is c.partition_point-from.ensures.bound;
      to_within = subst (λ (xs : List HeldRun). c.partition_point-to.result ≤ length xs) second_is c.partition_point-to.ensures.bound;
    }

pub returns : goal.returns
returns c =
    let is = bounded c in
    record {
      rising = bounds_rise _ _ _ _ is;
      within = is.to_within;
      each = bounds_each _ _ _ _ is;
    }
