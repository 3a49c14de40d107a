use Rattle.std.proofs.Common.{◌≡◌, ◌+◌, ◌-◌, ◌*◌, ℕ, List, Option, slice_get, sym, ap, ◌∙◌, arith}
use Rattle.nesc_base.specs.Places.{Owner}
use Rattle.image_layout.specs.Owners.{owner_block}
use Rattle.file_layer.specs.Layer.{owners_of}
use Rattle.file_layer.proofs.CopiedOwners.{copied_all, copied_more, copied_none, owner_of_data}
use Rattle.file_layer.proofs.LaidParts.{may_own_in}
use Rattle.file_layer.proofs.files.Files.map_block.Goals as goal

pub loop-k-init : goal.loop-k-init
loop-k-init c = copied_none _ _ _ _ (omega arith) c.empty-owners.ensures

pub loop-k-preserved : goal.loop-k-preserved
loop-k-preserved c =
    let files = c.args.self.now in
    let layer = c.requires.layer in
    let from = layer.from in
    let k : ℕ = c.loop-k.k in
    let here : 128 * c.args.b + (k - 128 * c.args.b) ≡ k = omega arith in
    let place : c.area_from.result + k - files.map.from ≡ k = omega (arith, from) in
    let there = ap (slice_get (owners_of files)) here ∙ owner_of_data files layer k (omega arith) ∙ ap (slice_get files.map.owners) (sym place) ∙ c.owner.ensures in
    copied_more _ _ _ _ _ _ c.owner.result (omega arith) (omega arith) there c.set.ensures c.loop-k.invariant

pub owner_block-requires : goal.owner_block-requires
owner_block-requires c k owner at =
    let all = copied_all c.args.self.now c.requires.layer c.args.b _ c.loop-k.owners c.requires.within (omega arith) (λ few. omega arith) c.loop-k.invariant in
    (may_own_in c.args.self.now c.requires.layer c.args.b k owner c.requires.within (ap (λ (os : List (Option Owner)). slice_get os k) (sym all) ∙ at)).numbered

pub returns : goal.returns
returns c =
    let all = copied_all c.args.self.now c.requires.layer c.args.b _ c.loop-k.owners c.requires.within (omega arith) (λ few. omega arith) c.loop-k.invariant in
    c.owner_block.ensures.spelling ∙ ap owner_block all
