-- The addresses of a path, one for each level.
use Rattle.std.proofs.Common.{◌≡◌, ℕ, zero, suc, ◌+◌, ◌-◌, ◌<◌, length, take, Some, slice_get, refl, sym, ap, ◌∙◌, arith, length-take}
use Rattle.tree_shape.specs.Shape.{node_over}
use Rattle.tree_shape.proofs.Paths.{over_leaf}
use Rattle.tree_words.specs.Shown.{Layout}
use Rattle.tree_laws.specs.Laws.{HasAddresses}
use Rattle.tree_laws.specs.Paths.{addresses_down}

length_down : (layout : Layout) (top leaf : ℕ) → length (addresses_down layout top leaf) ≡ top + 1
length_down layout zero leaf = refl
length_down layout (suc top) leaf = omega (arith, length_down layout top leaf)

each_down : (layout : Layout) (leaf top level down n : ℕ) → level + down ≡ top → down < n
    → slice_get (take n (addresses_down layout top leaf)) down ≡ Some (layout level (node_over level leaf))
each_down layout leaf top level down zero e less = absurd (omega arith)
each_down layout leaf zero level zero (suc n) e less =
    let same : 0 ≡ level = omega arith in
    ap (λ (k : ℕ). Some (layout 0 k)) (sym (over_leaf leaf)) ∙ ap (λ (l : ℕ). Some (layout l (node_over l leaf))) same
each_down layout leaf zero level (suc down) (suc n) e less = absurd (omega arith)
each_down layout leaf (suc top) level zero (suc n) e less =
    let same : suc top ≡ level = omega arith in
    ap (λ (l : ℕ). Some (layout l (node_over l leaf))) same
each_down layout leaf (suc top) level (suc down) (suc n) e less =
    let under : level + down ≡ top = omega arith in
    let within : down < n = omega arith in
    each_down layout leaf top level down n under within

pub has_addresses : (layout : Layout) (top leaf lacking : ℕ) → HasAddresses layout top leaf lacking
has_addresses layout top leaf lacking = record {
  many = omega (arith, length-take (top + 1 - lacking) (addresses_down layout top leaf), length_down layout top leaf);
  each = λ level down e low.
      let within : down < top + 1 - lacking = omega arith in
      each_down layout leaf top level down (top + 1 - lacking) e within;
}
