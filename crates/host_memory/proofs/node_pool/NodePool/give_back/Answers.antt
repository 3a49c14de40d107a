use Rattle.std.proofs.Common.{◌≡◌, ℕ, ◌-◌, ◌/◌, sym, subst, arith}
use Rattle.host_memory.specs.Pool.{IsTaken, Pool}
use Rattle.host_memory.proofs.Sounding.{room_for_one, sound_given}
use Rattle.host_memory.proofs.node_pool.NodePool.give_back.Goals as goal

pub name-requires : goal.name-requires
name-requires c =
    let taken = subst (λ (pool : Pool). IsTaken pool c.args.node) (sym c.self.view_is) c.requires in
    record { room = room_for_one c.self.invariant taken.0 taken.2 }

pub invariant_of-self : goal.invariant_of-self
invariant_of-self c =
    let taken = subst (λ (pool : Pool). IsTaken pool c.args.node) (sym c.self.view_is) c.requires in
    let k : ℕ = c.args.node / 32 - 1 in
    let same : k ≡ taken.0 = omega (arith, taken.1) in
    rw (c.name.ensures.items, same) (sound_given c.self.invariant taken.0 _ taken.2 c.name.ensures.room)
