use Rattle.std.proofs.Common.{◌<◌, ◌≤◌, subst, ◌∙◌, arith}
use Rattle.tree_pruner.proofs.Parts.{child_gone, child_inside, child_part, no_part, node_placed, none_gone, own_taken, part_few, part_gone, part_low}
use Rattle.tree_pruner.proofs.dropping.+drop_part.Goals as goal

pub returns-then-node-eq0 : goal.returns-then-node-eq0
returns-then-node-eq0 g t c = λ runs top layout level k shows is. no_part layout level k c.args.node _ is c.if-node-eq0.true

pub hanging-i-end-requires-clause-few : goal.hanging-i-end-requires-clause-few
hanging-i-end-requires-clause-few g t c = part_few _ _ _ _ c.requires c.if-node-eq0.false

pub hanging-i-end-requires-clause-node : goal.hanging-i-end-requires-clause-node
hanging-i-end-requires-clause-node g t c = node_placed _ _ _ _ c.requires c.if-node-eq0.false

pub loop-i-init : goal.loop-i-init
loop-i-init g t c = λ runs top layout level k shows is. none_gone layout level k _

pub overflow_mul-i : goal.overflow_mul-i
overflow_mul-i g t c = omega (arith, part_few _ _ _ _ c.requires c.if-node-eq0.false)

pub overflow_add-i : goal.overflow_add-i
overflow_add-i g t c = omega (arith, part_few _ _ _ _ c.requires c.if-node-eq0.false)

pub word_at-requires-clause-within : goal.word_at-requires-clause-within
word_at-requires-clause-within g t c = omega (arith, part_few _ _ _ _ c.requires c.if-node-eq0.false)

pub word_at-requires-clause-node : goal.word_at-requires-clause-node
word_at-requires-clause-node g t c = node_placed _ _ _ _ c.requires c.if-node-eq0.false

pub address_in-child-requires : goal.address_in-child-requires
address_in-child-requires g t c =
    child_inside _ _ _ _ c.requires c.if-node-eq0.false c.loop-i.i c.word_at.result
    (subst (λ n. c.loop-i.i < n) c.hanging-i-end.ensures c.loop-i-test.true) c.word_at.ensures

pub drop_part-requires : goal.drop_part-requires
drop_part-requires g t c κs within = (
  (let low = part_low _ _ _ _ c.requires c.if-node-eq0.false c.loop-i.i (subst (λ n. c.loop-i.i < n) c.hanging-i-end.ensures c.loop-i-test.true) in
      omega (arith, c.decreases)),
  (
    within,
    child_part _ _ _ _ _ c.requires c.if-node-eq0.false c.loop-i.i c.address_in-child.result
        (subst (λ n. c.loop-i.i < n) c.hanging-i-end.ensures c.loop-i-test.true) (c.address_in-child.ensures ∙ c.word_at.ensures)
        (c.loop-i.invariant c.requires.runs c.requires.top c.requires.layout c.requires.level c.requires.k c.requires.shows c.requires.is),
  ),
)

pub loop-i-preserved : goal.loop-i-preserved
loop-i-preserved g t c = λ runs top layout level k shows is.
    child_gone _ runs top layout shows _ _ _ level k c.loop-i.i c.args.node c.address_in-child.result is c.if-node-eq0.false
    (subst (λ n. c.loop-i.i < n) c.hanging-i-end.ensures c.loop-i-test.true) (c.address_in-child.ensures ∙ c.word_at.ensures)
    (c.loop-i.invariant runs top layout level k shows is) c.drop_part.ensures

pub give_back-requires : goal.give_back-requires
give_back-requires g t c =
    own_taken _ _ _ _ _ c.requires c.if-node-eq0.false c.loop-i.i
    (c.loop-i.invariant c.requires.runs c.requires.top c.requires.layout c.requires.level c.requires.k c.requires.shows c.requires.is)

pub returns : goal.returns
returns g t c = λ runs top layout level k shows is.
    part_gone _ runs top layout shows _ _ _ level k c.loop-i.i c.args.node is c.if-node-eq0.false
    (subst (λ n. n ≤ c.loop-i.i) c.hanging-i-end.ensures c.loop-i-test.false) (omega (arith, part_few _ _ _ _ c.requires c.if-node-eq0.false))
    (c.loop-i.invariant runs top layout level k shows is) c.give_back.ensures
