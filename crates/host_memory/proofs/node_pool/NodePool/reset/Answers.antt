use Rattle.std.proofs.Common.{◌≡◌, ◌<◌, ◌^◌, false, replicate, sym, ap, ◌∙◌, arith, rules}
use Rattle.host_memory.proofs.Sounding.{sound_all}
use Rattle.host_memory.proofs.node_pool.NodePool.reset.Goals as goal

pub invariant_of-self : goal.invariant_of-self
invariant_of-self c =
    let same = c.len.ensures ∙ c.fill.ensures.len in
    let none : c.fill.new.self.items ≡ replicate c.len.result false =
    c.fill.ensures.items (search rules) ∙ ap (λ n. replicate n false) (sym same) in
    let few : c.len.result < 2 ^ 16 = omega (arith, same, c.self.inside.taken.ok.0, c.self.invariant.fits) in
    sound_all _ _ _ c.len.result none c.name_all.ensures.names few c.name_all.ensures.room
