use Rattle.std.proofs.Common.{◌≡◌, ℕ, List, Option, None, length, replicate, true, sym, ap, ◌∙◌, arith, rules}
use Rattle.std.specs.Prelude.{is_none}
use Rattle.std.proofs.lemmas.List.{length-map}
use Rattle.nesc_base.specs.Places.{Owner}
use Rattle.block_map.proofs.Sounding.{IsSound-fresh}
use Rattle.block_map.proofs.map.BlockMap.clear.Goals as goal

pub invariant_of-self : goal.invariant_of-self
invariant_of-self c =
    let owners : List (Option Owner) = c.self.inside.owners.items in
    let same = c.len.ensures ∙ c.fill.ensures.len in
    let many : c.len.result ≡ length owners = same ∙ c.self.inside.owners.ok.0 in
    let bits : length c.self.inside.free_bits ≡ c.len.result = omega (arith, many, ap length c.self.invariant.marked, length-map owners is_none) in
    let cleared = c.fill.ensures.items (search rules) ∙ ap (λ (n : ℕ). replicate n None) (sym same) in
    IsSound-fresh c.self.inside.from c.len.result _ _ _ _ cleared c.clear.ensures.none (c.set_all.ensures ∙ ap (λ (n : ℕ). replicate n true) bits)
    (omega (arith, many, c.self.invariant.fits)) (omega (arith, many, c.self.invariant.few)) (omega (arith, many, c.self.invariant.enough, c.clear.ensures.room))
