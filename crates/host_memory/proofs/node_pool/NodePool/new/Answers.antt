use Rattle.std.proofs.Common.{◌≡◌, false, replicate, ap, ◌∙◌, rules}
use Rattle.host_memory.proofs.Sounding.{sound_all}
use Rattle.host_memory.proofs.node_pool.NodePool.new.Goals as goal

pub invariant_of-result : goal.invariant_of-result
invariant_of-result c =
    let none : c.in_ok-taken.taken.items ≡ replicate c.args.nodes false =
    c.in_ok-taken.ensures.items_if_clones_equal (search rules) ∙ ap (λ n. replicate n false) c.from.ensures in
    sound_all _ _ _ c.args.nodes none c.name_all.ensures.names c.ranges.nodes.fits c.name_all.ensures.room
