use Rattle.std.proofs.Common.{◌≡◌, None, replicate, arith, rules}
use Rattle.block_map.proofs.Sounding.{IsSound-fresh}
use Rattle.block_map.proofs.map.BlockMap.new.Goals as goal

pub invariant_of-result : goal.invariant_of-result
invariant_of-result c =
    let free : c.in_ok-vec.field-0.items ≡ replicate c.args.geometry.blocks None = c.in_ok-vec.ensures.items_if_clones_equal (search rules) in
    IsSound-fresh c.area_from.result c.args.geometry.blocks _ _ _ _ free c.in_ok-new.ensures.none c.in_ok-new-2.ensures
    (omega (arith, c.area_from.ensures, c.requires.few_blocks, c.requires.little_slack)) c.requires.few_blocks (omega (arith, c.in_ok-new.ensures.room))
