use Rattle.std.proofs.Common.{◌+◌, ◌*◌, true, false, ap, subst, arith}
use Rattle.std.specs.Prelude.{slice_set}
use Rattle.std.proofs.lemmas.Option.{slice_get_within}
use Rattle.host_memory.specs.Pool.{Pool, Takes}
use Rattle.host_memory.proofs.Sounding.{last_is_free, sound_taken}
use Rattle.host_memory.proofs.node_pool.NodePool.take.Goals as goal

pub index_mut-requires : goal.index_mut-requires
index_mut-requires c =
    let free = last_is_free c.self.invariant c.pop.new.self.items c.in_ok-k.k c.in_ok-k.ensures.items in
    omega (arith, c.from.ensures, c.self.inside.taken.ok.0, slice_get_within c.self.inside.taken.items c.in_ok-k.k false free)

pub invariant_of-self-2 : goal.invariant_of-self-2
invariant_of-self-2 c =
    rw (c.from.ensures, c.in_ok-k.ensures.capacity)
    (sound_taken c.self.invariant c.pop.new.self.items c.in_ok-k.k c.in_ok-k.ensures.items)

pub returns : goal.returns
returns c =
    subst (λ (old : Pool). Takes old (32 * (c.from-2.result + 1)) (record { taken = slice_set c.self.inside.taken.items c.from.result true })) c.self.view_is (record {
      k = c.in_ok-k.k;
      at = ap (λ n. 32 * (n + 1)) c.from-2.ensures;
      was_free = last_is_free c.self.invariant c.pop.new.self.items c.in_ok-k.k c.in_ok-k.ensures.items;
      marks = ap (λ n. slice_set c.self.inside.taken.items n true) c.from.ensures;
    })
