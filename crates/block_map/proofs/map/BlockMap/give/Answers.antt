use Rattle.std.proofs.Common.{◌+◌, Some, sym, ap, ◌∙◌, subst, arith}
use Rattle.block_map.specs.Map.{BlockMap, IsFull, IsLowestFree, IsUnheld, with_owner}
use Rattle.block_map.proofs.Freed.{full, lowest_free, lowest_within}
use Rattle.block_map.proofs.map.BlockMap.give.Goals as goal

pub returns-in_err-at : goal.returns-in_err-at
returns-in_err-at c =
    rw c.from_residual.ensures
    (subst (λ (m : BlockMap). IsFull m) c.self.view_is (full _ c.self.inside.free_bits c.self.invariant.marked c.in_err-at.ensures.lowest), c.self.view_is)

pub overflow_add-at : goal.overflow_add-at
overflow_add-at c =
    omega (arith, c.self.invariant.fits, lowest_within c.self.inside.owners.items c.self.inside.free_bits c.in_ok-at.field-0 c.self.invariant.marked c.in_ok-at.ensures.lowest)

pub set-requires-clause-free : goal.set-requires-clause-free
set-requires-clause-free c =
    (lowest_free _ c.self.inside.free_bits c.in_ok-at.field-0 c.self.invariant.marked c.in_ok-at.ensures.lowest).free

pub set-requires-clause-unheld : goal.set-requires-clause-unheld
set-requires-clause-unheld c =
    subst (λ (m : BlockMap). IsUnheld m c.args.file.0 c.args.v) (sym c.self.view_is) c.requires.unheld

pub returns : goal.returns
returns c =
    let at = c.self.inside.from + c.in_ok-at.field-0 in (
      subst (λ (m : BlockMap). IsLowestFree m at) c.self.view_is (lowest_free _ c.self.inside.free_bits c.in_ok-at.field-0 c.self.invariant.marked c.in_ok-at.ensures.lowest),
      c.set.ensures ∙ ap (λ (m : BlockMap). with_owner m at (Some (c.args.file, c.args.v))) c.self.view_is,
    )
