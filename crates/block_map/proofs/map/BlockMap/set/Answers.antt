use Rattle.std.proofs.Common.{◌-◌, sym, subst, arith}
use Rattle.block_map.specs.Map.{BlockMap, IsFreeAt, IsUnheld}
use Rattle.block_map.proofs.Sounding.{IsSound-with, room_for_one, share_within}
use Rattle.block_map.proofs.map.BlockMap.set.Goals as goal

pub add-requires-clause-unheld : goal.add-requires-clause-unheld
add-requires-clause-unheld c =
    λ at among.
    subst (λ (m : BlockMap). IsUnheld m c.args.file.0 c.args.v) (sym c.self.view_is) c.requires.unheld at ((c.self.invariant.same c.args.file.0 c.args.v at).0 among)

pub add-requires-clause-room : goal.add-requires-clause-room
add-requires-clause-room c =
    let free = subst (λ (m : BlockMap). IsFreeAt m c.args.at) (sym c.self.view_is) c.requires.free in
    (room_for_one c.self.invariant (c.args.at - c.self.inside.from) free.free).0

pub overflow_sub-self : goal.overflow_sub-self
overflow_sub-self c =
    let free = subst (λ (m : BlockMap). IsFreeAt m c.args.at) (sym c.self.view_is) c.requires.free in
    (room_for_one c.self.invariant (c.args.at - c.self.inside.from) free.free).1

pub overflow_add-self : goal.overflow_add-self
overflow_add-self c =
    rw c.from.ensures (omega (arith, share_within c.self.invariant c.args.file.0 c.requires.may.among))

pub invariant_of-self : goal.invariant_of-self
invariant_of-self c =
    let free = subst (λ (m : BlockMap). IsFreeAt m c.args.at) (sym c.self.view_is) c.requires.free in
    rw (c.clear.ensures, c.from.ensures)
    (IsSound-with c.self.invariant c.args.file c.args.v c.args.at _ _ free.place.0 free.free c.requires.may c.add.ensures.sound c.add.ensures.adds c.add.ensures.room)
