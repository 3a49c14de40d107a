use Rattle.std.proofs.Common.{◌≡◌, ◌-◌, Some, length, refl, ap, ◌∙◌, arith}
use Rattle.std.specs.FinMap.{insert}
use Rattle.std.proofs.lemmas.List.{length-set}
use Rattle.host_journal.proofs.Stored.{AreStaged-new, block_within, changed, index_at, space_left, staged_as-new, staged_as-over, target_at}
use Rattle.host_journal.proofs.staged.StagedBlocks.put.Goals as goal

pub index_mut-requires : goal.index_mut-requires
index_mut-requires c =
    let here = index_at c.self.view_is _ refl c.requires.place c.index.ensures in
    omega (arith, block_within c.self.invariant c.args.at c.in-Some.i here.0 (here.1 ∙ ap Some c.in-Some.is))

pub returns-in-Some : goal.returns-in-Some
returns-in-Some c =
    let here = index_at c.self.view_is _ refl c.requires.place c.index.ensures in
    let target = target_at c.self.invariant c.args.at c.in-Some.i here.0 (here.1 ∙ ap Some c.in-Some.is) in
    changed c.self.view_is (λ s. insert s c.args.at c.args.block.now) (rw c.from.ensures (staged_as-over c.self.invariant c.in-Some.i c.args.at c.args.block.now target)) refl

pub push_reserved-requires : goal.push_reserved-requires
push_reserved-requires c =
    let here = index_at c.self.view_is _ refl c.requires.place c.index.ensures in
    let space = space_left c.self.invariant c.args.at (here.1 ∙ ap Some c.in_default.is) c.self.view_is c.requires.room in
    omega (arith, space, c.self.invariant.room_for_targets)

pub push_reserved-requires-2 : goal.push_reserved-requires-2
push_reserved-requires-2 c =
    let here = index_at c.self.view_is _ refl c.requires.place c.index.ensures in
    let space = space_left c.self.invariant c.args.at (here.1 ∙ ap Some c.in_default.is) c.self.view_is c.requires.room in
    omega (arith, space, c.self.invariant.room_for_blocks, c.self.invariant.paired)

pub invariant_of-self-2 : goal.invariant_of-self-2
invariant_of-self-2 c =
    let here = index_at c.self.view_is _ refl c.requires.place c.index.ensures in
    let none = here.1 ∙ ap Some c.in_default.is in
    let space = space_left c.self.invariant c.args.at none c.self.view_is c.requires.room in
    let count : c.len.result ≡ length c.self.inside.targets.items = omega (arith, c.len.ensures) in
    rw (c.push_reserved.ensures.items, c.push_reserved-2.ensures.items, count)
    (AreStaged-new c.self.invariant c.args.at c.args.block.now none here.0 space _ _ (omega (arith, c.push_reserved.ensures.capacity, c.self.invariant.room_for_targets)) (omega (arith, c.push_reserved-2.ensures.capacity, c.self.invariant.room_for_blocks)))

pub returns : goal.returns
returns c =
    let here = index_at c.self.view_is _ refl c.requires.place c.index.ensures in
    let none = here.1 ∙ ap Some c.in_default.is in
    changed c.self.view_is (λ s. insert s c.args.at c.args.block.now)
    (rw (c.push_reserved.ensures.items, c.push_reserved-2.ensures.items) (staged_as-new c.self.invariant c.args.at c.args.block.now none))
    (length-set c.self.inside.index.items (c.args.at - c.self.inside.from) (Some c.len.result))
