use Rattle.std.proofs.Common.{◌+◌, subst, arith}
use Rattle.block_map.specs.Map.{BlockMap, IsFull, IsLowestFree}
use Rattle.block_map.proofs.Freed.{full, lowest_free, lowest_within}
use Rattle.block_map.proofs.map.BlockMap.lowest_free.Goals as goal

pub returns-in_err-lowest : goal.returns-in_err-lowest
returns-in_err-lowest c =
    rw c.from_residual.ensures (subst (λ (m : BlockMap). IsFull m) c.self.view_is (full _ c.self.inside.free_bits c.self.invariant.marked c.in_err-lowest.ensures))

pub overflow_add-result : goal.overflow_add-result
overflow_add-result c =
    omega (arith, c.self.invariant.fits, lowest_within c.self.inside.owners.items c.self.inside.free_bits c.in_ok-lowest.field-0 c.self.invariant.marked c.in_ok-lowest.ensures)

pub returns : goal.returns
returns c =
    subst (λ (m : BlockMap). IsLowestFree m (c.self.inside.from + c.in_ok-lowest.field-0)) c.self.view_is
    (lowest_free _ c.self.inside.free_bits c.in_ok-lowest.field-0 c.self.invariant.marked c.in_ok-lowest.ensures)
