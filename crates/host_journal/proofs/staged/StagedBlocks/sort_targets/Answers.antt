use Rattle.std.proofs.Common.{◌≡◌, ◌++◌, ◌≤◌, length, drop, take, IsPermutation, sym, ap, ◌∙◌, subst, arith}
use Rattle.std.specs.FinMap.{len}
use Rattle.std.proofs.lemmas.List.{take_at, length-take-le}
use Rattle.host_journal.specs.Staged.{targets_of}
use Rattle.host_journal.proofs.Stored.{AreApart-staged, len-staged, targets_of-sorted}
use Rattle.host_journal.proofs.staged.StagedBlocks.sort_targets.Goals as goal

pub slice_bounds-copy_from_slice-end : goal.slice_bounds-copy_from_slice-end
slice_bounds-copy_from_slice-end c =
    let count = len-staged _ _ c.self.invariant.paired (AreApart-staged c.self.invariant) in
    omega (arith, count, ap (λ s. len s.staged) c.self.view_is)

pub slice_bounds-copy_from_slice-end-2 : goal.slice_bounds-copy_from_slice-end-2
slice_bounds-copy_from_slice-end-2 c =
    let count = len-staged _ _ c.self.invariant.paired (AreApart-staged c.self.invariant) in
    sym (length-take-le c.len-count.result c.args.into.now (omega (arith, count, ap (λ s. len s.staged) c.self.view_is)))

pub copy_from_slice-requires : goal.copy_from_slice-requires
copy_from_slice-requires c =
    let count = len-staged _ _ c.self.invariant.paired (AreApart-staged c.self.invariant) in
    let within : c.len-count.result ≤ length c.args.into.now = omega (arith, count, ap (λ s. len s.staged) c.self.view_is) in
    omega (arith, length-take-le c.len-count.result c.args.into.now within, ap length c.deref.ensures.value)

pub returns-clause-count : goal.returns-clause-count
returns-clause-count c =
    let count = len-staged _ _ c.self.invariant.paired (AreApart-staged c.self.invariant) in
    omega (arith, count, ap (λ s. len s.staged) c.self.view_is)

pub returns-clause-targets : goal.returns-clause-targets
returns-clause-targets c =
    let targets = c.self.inside.targets.items in
    let sorted = c.sort_unstable.new.self in
    let copied : c.copy_from_slice.new.self ≡ targets = c.copy_from_slice.ensures.after ∙ c.deref.ensures.value in
    let count : length c.copy_from_slice.new.self ≡ c.len-count.result = omega (arith, ap length copied) in
    let part : take c.len-count.result (c.copy_from_slice.new.self ++ drop c.len-count.result c.args.into.now) ≡ targets = take_at c.copy_from_slice.new.self _ c.len-count.result count ∙ copied in
    let moved : IsPermutation targets sorted = subst (λ xs. IsPermutation xs sorted) part c.sort_unstable.ensures.permutation in
    let long : length sorted ≡ c.len-count.result = omega (arith, c.sort_unstable.ensures.len, ap length part) in
    take_at sorted _ c.len-count.result long
    ∙ targets_of-sorted targets _ c.self.invariant.paired (AreApart-staged c.self.invariant) sorted moved c.sort_unstable.ensures.sorted
    ∙ ap (λ s. targets_of s.staged) c.self.view_is
