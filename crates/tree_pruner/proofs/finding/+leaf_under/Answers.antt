use Rattle.std.proofs.Common.{sym, ◌∙◌, arith}
use Rattle.std.proofs.lemmas.Bool.{false≢true}
use Rattle.tree_pruner.proofs.WaysDown.{finds_here, finds_next, has_next, place_placed, way_down}
use Rattle.tree_pruner.proofs.finding.+leaf_under.Goals as goal

pub is_inner-requires : goal.is_inner-requires
is_inner-requires g t c = λ some. place_placed _ _ _ _ c.requires some

pub returns-then-not-is_inner : goal.returns-then-not-is_inner
returns-then-not-is_inner g t c = finds_here _ c.args.place c.args.v (λ inner. false≢true (sym c.if-not-is_inner.true ∙ c.is_inner.ensures.1 inner))

pub place_below-requires-clause-node : goal.place_below-requires-clause-node
place_below-requires-clause-node g t c = place_placed _ _ _ _ c.requires (c.is_inner.ensures.0 c.if-not-is_inner.false).0

pub place_below-requires-clause-way : goal.place_below-requires-clause-way
place_below-requires-clause-way g t c = let inner = c.is_inner.ensures.0 c.if-not-is_inner.false in way_down _ _ _ _ c.requires inner.0 inner.1

pub leaf_under-requires : goal.leaf_under-requires
leaf_under-requires g t c κs within =
    let inner = c.is_inner.ensures.0 c.if-not-is_inner.false in
    let next = has_next _ c.args.place c.place_below.result c.args.v c.args.height c.requires inner.0 inner.1 c.place_below.ensures in
    let low = next.0 in
    ((omega (arith, c.decreases)), (within, next.1))

pub returns : goal.returns
returns g t c =
    let inner = c.is_inner.ensures.0 c.if-not-is_inner.false in
    finds_next _ c.args.place c.place_below.result c.leaf_under.result c.args.v inner.0 inner.1 c.place_below.ensures c.leaf_under.ensures
