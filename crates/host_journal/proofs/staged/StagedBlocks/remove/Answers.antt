use Rattle.std.proofs.Common.{◌-◌, Some, None, length, refl, sym, ap, ◌∙◌, arith}
use Rattle.std.specs.Prelude.{slice_set}
use Rattle.std.specs.FinMap.{remove}
use Rattle.std.proofs.lemmas.List.{length-set}
use Rattle.std.proofs.lemmas.Option.{slice_get_within}
use Rattle.host_journal.proofs.Stored.{AreStaged-without, block_within, changed, index_at, last_read, no_target, none_stands, remove_none, staged_as-without, target_within}
use Rattle.host_journal.proofs.staged.StagedBlocks.remove.Goals as goal

pub returns-in_default : goal.returns-in_default
returns-in_default c =
    let here = index_at c.self.view_is _ refl c.requires c.index.ensures in
    let none = none_stands _ _ c.args.at (no_target c.self.invariant c.args.at (here.1 ∙ ap Some c.in_default.is)) in
    sym c.self.view_is ∙ changed c.self.view_is (λ s. remove s c.args.at) (remove_none _ c.args.at none) refl

pub overflow_sub-len : goal.overflow_sub-len
overflow_sub-len c =
    let here = index_at c.self.view_is _ refl c.requires c.index.ensures in
    omega (arith, target_within c.self.invariant c.args.at c.in-Some.i here.0 (here.1 ∙ ap Some c.in-Some.is))

pub index-last-requires : goal.index-last-requires
index-last-requires c =
    let here = index_at c.self.view_is _ refl c.requires c.index.ensures in
    omega (arith, target_within c.self.invariant c.args.at c.in-Some.i here.0 (here.1 ∙ ap Some c.in-Some.is))

pub overflow_sub-last : goal.overflow_sub-last
overflow_sub-last c =
    let here = index_at c.self.view_is _ refl c.requires c.index.ensures in
    let within = target_within c.self.invariant c.args.at c.in-Some.i here.0 (here.1 ∙ ap Some c.in-Some.is) in
    (c.self.invariant.found _ _ (last_read c.self.invariant c.in-Some.i c.index-last.result.now c.len.result within (omega (arith, c.len.ensures)) c.index-last.ensures)).0

pub index_mut-requires : goal.index_mut-requires
index_mut-requires c =
    let here = index_at c.self.view_is _ refl c.requires c.index.ensures in
    let within = target_within c.self.invariant c.args.at c.in-Some.i here.0 (here.1 ∙ ap Some c.in-Some.is) in
    let there = (c.self.invariant.found _ _ (last_read c.self.invariant c.in-Some.i c.index-last.result.now c.len.result within (omega (arith, c.len.ensures)) c.index-last.ensures)).1 in
    omega (arith, slice_get_within c.self.inside.index.items (c.index-last.result.now - c.self.inside.from) (Some (length c.self.inside.targets.items - 1)) there)

pub swap_remove-requires : goal.swap_remove-requires
swap_remove-requires c =
    let here = index_at c.self.view_is _ refl c.requires c.index.ensures in
    omega (arith, target_within c.self.invariant c.args.at c.in-Some.i here.0 (here.1 ∙ ap Some c.in-Some.is))

pub swap_remove-requires-2 : goal.swap_remove-requires-2
swap_remove-requires-2 c =
    let here = index_at c.self.view_is _ refl c.requires c.index.ensures in
    omega (arith, block_within c.self.invariant c.args.at c.in-Some.i here.0 (here.1 ∙ ap Some c.in-Some.is))

pub invariant_of-self : goal.invariant_of-self
invariant_of-self c =
    let here = index_at c.self.view_is _ refl c.requires c.index.ensures in
    let there = here.1 ∙ ap Some c.in-Some.is in
    let within = target_within c.self.invariant c.args.at c.in-Some.i here.0 there in
    let last = last_read c.self.invariant c.in-Some.i c.index-last.result.now c.len.result within (omega (arith, c.len.ensures)) c.index-last.ensures in
    rw (c.swap_remove.ensures.items, c.swap_remove-2.ensures.items, c.from.ensures, c.from-2.ensures)
    (AreStaged-without c.self.invariant c.args.at c.in-Some.i c.index-last.result.now c.swap_remove.result c.swap_remove-2.result here.0 there last _ _ (omega (arith, c.swap_remove.ensures.capacity, c.self.invariant.room_for_targets)) (omega (arith, c.swap_remove-2.ensures.capacity, c.self.invariant.room_for_blocks)))

pub returns : goal.returns
returns c =
    let here = index_at c.self.view_is _ refl c.requires c.index.ensures in
    let there = here.1 ∙ ap Some c.in-Some.is in
    let within = target_within c.self.invariant c.args.at c.in-Some.i here.0 there in
    let last = last_read c.self.invariant c.in-Some.i c.index-last.result.now c.len.result within (omega (arith, c.len.ensures)) c.index-last.ensures in
    let moved = slice_set c.self.inside.index.items (c.index-last.result.now - c.self.inside.from) (Some c.in-Some.i) in
    changed c.self.view_is (λ s. remove s c.args.at)
    (rw (c.swap_remove.ensures.items, c.swap_remove-2.ensures.items, c.from.ensures, c.from-2.ensures)
    (staged_as-without c.self.invariant c.args.at c.in-Some.i c.index-last.result.now c.swap_remove.result c.swap_remove-2.result here.0 there last))
    (length-set moved (c.args.at - c.self.inside.from) None ∙ length-set c.self.inside.index.items (c.index-last.result.now - c.self.inside.from) (Some c.in-Some.i))
