use Rattle.std.proofs.Common.{◌≡◌, ◌<◌, subst, arith, Some, slice_get}
use Rattle.nesc_base.specs.Memory.{node_at}
use Rattle.tree_builder.specs.Ways.{slot_word}
use Rattle.tree_builder.proofs.way.next_below.Goals as goal

pub overflow_cast-result : goal.overflow_cast-result
overflow_cast-result g c =
    let words = (g.M.Memory.known c.args.memory.now).words in
    let some : 0 < c.args.way.lacking = omega arith in
    let is = subst (λ s. slice_get (node_at words c.args.way.lowest) (slot_word s) ≡ Some c.child_at.result) c.slot_of.ensures c.child_at.ensures in
    let low = c.requires.small c.child_at.result some is in
    omega arith

pub returns-clause-inner : goal.returns-clause-inner
returns-clause-inner g c =
    let words = (g.M.Memory.known c.args.memory.now).words in
    λ _. subst (λ s. slice_get (node_at words c.args.way.lowest) (slot_word s) ≡ Some c.child_at.result) c.slot_of.ensures c.child_at.ensures
