use Rattle.std.proofs.Common.{◌-◌, Some, get_or, slice_get, refl, sym, ap, ◌∙◌, arith}
use Rattle.std.specs.FinMap.{empty}
use Rattle.std.proofs.lemmas.Option.{slice_get_within, slice_get-get_or}
use Rattle.host_journal.proofs.Stored.{AreLeft-more, AreStaged-none, changed}
use Rattle.host_journal.proofs.staged.StagedBlocks.clear.Goals as goal

pub loop-at-init : goal.loop-at-init
loop-at-init c = record {
  only = λ place i is. (omega arith, ap (λ xs. slice_get xs i) c.deref-at-items.ensures.value ∙ c.self.invariant.only place i is);
  whole = refl;
}

pub overflow_sub-at : goal.overflow_sub-at
overflow_sub-at c =
    let items = c.deref-at-items.result.now in
    let target = slice_get-get_or items c.loop-at.at-index 0 c.loop-at-test.true in
    (c.self.invariant.found c.loop-at.at-index (get_or items c.loop-at.at-index 0) (ap (λ xs. slice_get xs c.loop-at.at-index) (sym c.deref-at-items.ensures.value) ∙ target)).0

pub index_mut-requires : goal.index_mut-requires
index_mut-requires c =
    let items = c.deref-at-items.result.now in
    let at = get_or items c.loop-at.at-index 0 in
    let target = slice_get-get_or items c.loop-at.at-index 0 c.loop-at-test.true in
    let there = (c.self.invariant.found c.loop-at.at-index at (ap (λ xs. slice_get xs c.loop-at.at-index) (sym c.deref-at-items.ensures.value) ∙ target)).1 in
    omega (arith, slice_get_within c.self.inside.index.items (at - c.self.inside.from) (Some c.loop-at.at-index) there, c.loop-at.invariant.whole)

pub loop-at-preserved : goal.loop-at-preserved
loop-at-preserved c =
    let items = c.deref-at-items.result.now in
    AreLeft-more c.loop-at.invariant (get_or items c.loop-at.at-index 0) (slice_get-get_or items c.loop-at.at-index 0 c.loop-at-test.true)

pub invariant_of-self : goal.invariant_of-self
invariant_of-self c =
    rw (c.clear.ensures.items, c.clear-2.ensures.items)
    (AreStaged-none c.loop-at.invariant c.self.invariant refl (omega (arith, c.loop-at-test.false)) _ _
    (omega (arith, c.clear.ensures.capacity, c.self.invariant.room_for_targets))
    (omega (arith, c.clear-2.ensures.capacity, c.self.invariant.room_for_blocks)))

pub returns : goal.returns
returns c =
    changed c.self.view_is (λ _. empty) (rw c.clear.ensures.items refl) c.loop-at.invariant.whole
