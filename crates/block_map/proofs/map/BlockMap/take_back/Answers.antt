use Rattle.std.proofs.Common.{None, length, ap, subst, arith}
use Rattle.std.specs.Prelude.{is_none}
use Rattle.std.proofs.lemmas.List.{length-map}
use Rattle.block_map.specs.Map.{BlockMap, IsUnheld, StandsAt, with_owner}
use Rattle.block_map.proofs.Sounding.{IsSound-without, place_within}
use Rattle.block_map.proofs.map.BlockMap.take_back.Goals as goal

pub returns-in_err-at : goal.returns-in_err-at
returns-in_err-at c =
    let n = c.args.file.0 in
    let v = c.args.v in
    rw c.from_residual.ensures
    (subst (λ (m : BlockMap). IsUnheld m n v) c.self.view_is (λ at owned. c.in_err-at.ensures.taken.0 at ((c.self.invariant.same n v at).1 owned)), c.self.view_is)

pub index_mut-requires : goal.index_mut-requires
index_mut-requires c =
    let within = place_within c.self.invariant c.args.file.0 c.args.v c.in_ok-at.at c.in_ok-at.ensures.taken.0 in
    omega (arith, within)

pub set-requires : goal.set-requires
set-requires c =
    let within = place_within c.self.invariant c.args.file.0 c.args.v c.in_ok-at.at c.in_ok-at.ensures.taken.0 in
    omega (arith, within, ap length c.self.invariant.marked, length-map c.self.inside.owners.items is_none)

pub overflow_sub-self : goal.overflow_sub-self
overflow_sub-self c =
    rw c.from.ensures
    (IsSound-without c.self.invariant c.args.file.0 c.args.v c.in_ok-at.at _ _ c.in_ok-at.ensures.taken.0 c.in_ok-at.ensures.sound c.in_ok-at.ensures.taken.1 c.in_ok-at.ensures.room).0

pub invariant_of-self-2 : goal.invariant_of-self-2
invariant_of-self-2 c =
    rw (c.set.ensures, c.from.ensures)
    (IsSound-without c.self.invariant c.args.file.0 c.args.v c.in_ok-at.at _ _ c.in_ok-at.ensures.taken.0 c.in_ok-at.ensures.sound c.in_ok-at.ensures.taken.1 c.in_ok-at.ensures.room).1

pub returns : goal.returns
returns c =
    let n = c.args.file.0 in
    let v = c.args.v in
    let at = c.in_ok-at.at in (
      subst (λ (m : BlockMap). StandsAt m n v at) c.self.view_is ((c.self.invariant.same n v at).0 c.in_ok-at.ensures.taken.0),
      ap (λ (m : BlockMap). with_owner m at None) c.self.view_is,
    )
