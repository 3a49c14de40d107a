use Rattle.std.proofs.Common.{◌≡◌, ◌-◌, ◌+◌, [], ◌∷◌, ◌++◌, map, sym, ap, ◌∙◌, arith}
use Rattle.std.specs.List.{range_with_len}
use Rattle.std.proofs.lemmas.List.FromFn.{map-range_with_len_more}
use Rattle.nesc_base.specs.Geometry.{slot_at}
use Rattle.image_tools.proofs.Clearing.{Clears-same, Clears-then}
use Rattle.image_tools.proofs.making.clear_gates.Goals as goal

pub loop-k-preserved : goal.loop-k-preserved
loop-k-preserved g c =
    let f = slot_at c.args.geometry in
    let k = c.loop-k.k in
    let next : k + 1 - 1 ≡ k - 1 + 1 = omega arith in
    let before = map f (range_with_len 1 (k - 1)) in
    let more : map f (range_with_len 1 (k + 1 - 1)) ≡ before ++ c.slot_at.result ∷ [] =
    ap (λ n. map f (range_with_len 1 n)) next ∙ map-range_with_len_more f 1 (k - 1) k (omega arith) ∙ ap (λ at. before ++ at ∷ []) (sym c.slot_at.ensures) in
    record {
      clears = Clears-same _ _ _ _ _ (sym more) (Clears-then _ _ _ _ _ _ c.loop-k.invariant.clears c.in_ok-write_zeros.ensures.clears);
      keeps = g.met.D.Disk.keeps_on _ _ _ c.loop-k.invariant.keeps c.in_ok-write_zeros.ensures.keeps;
    }

pub returns-clause-clears : goal.returns-clause-clears
returns-clause-clears g c =
    let all : c.loop-k.k - 1 ≡ 4 = omega arith in
    Clears-same _ _ _ _ _ (ap (λ n. map (slot_at c.args.geometry) (range_with_len 1 n)) all) c.loop-k.invariant.clears
