-- Zeros written one after another.
use Rattle.std.proofs.Common.{◌≡◌, ℕ, ◌-◌, List, [], ◌∷◌, ◌++◌, Result, Ok, sym, ap, subst, ◌∙◌, arith}
use Rattle.std.specs.Prelude.{IsErr}
use Rattle.std.specs.List.{range_with_len}
use Rattle.std.proofs.lemmas.Result.{on_ok_weaker}
use Rattle.nesc_base.specs.declared.disk.DiskFault.{DiskFault}
use Rattle.nesc_base.specs.declared.geometry.Geometry.{Geometry}
use Rattle.nesc_base.specs.Disk.{Known}
use Rattle.nesc_base.specs.Geometry.{area_from, map_at, map_blocks, table_at, total}
use Rattle.nesc_base.proofs.Causes.{cause_on}
use Rattle.nesc_base.proofs.DiskCalls.{goes_on, writes_on}
use Rattle.image_tools.specs.Make.{Clears, IsBehind, cleared, gates, cleared_at}
use Rattle.image_tools.proofs.Zeros.{cleared_at-append}

-- places behind places
pub Clears-then : (a b c : Known) (places others : List ℕ) (result : Result (Unit {0}) DiskFault) → Clears places a b (Ok tt) → Clears others b c result → Clears (places ++ others) a c result
Clears-then a b c places others result first second = record {
  goes = goes_on a b c first.goes second.goes;
  zeros = λ tells. on_ok_weaker result (λ zeros. zeros ∙ ap (cleared_at others) (first.zeros tells) ∙ sym (cleared_at-append places others a.contents)) (second.zeros (first.goes.still_tells ∙ tells));
  writes = writes_on IsBehind a b c first.goes first.writes second.goes second.writes;
  cause = cause_on a.faults b.faults c.faults (IsErr result) first.cause.never_falls second.cause;
}

-- they are the same places
pub Clears-same : (a b : Known) (places others : List ℕ) (result : Result (Unit {0}) DiskFault) → places ≡ others → Clears places a b result → Clears others a b result
Clears-same a b places others result same clears = let P : List ℕ → Type 0 = λ at. Clears at a b result in subst P same clears

-- all that have to be zeros, by the parts in which they are written
pub cleared-parts : (geometry : Geometry) (table from end size : ℕ) → table ≡ table_at geometry → from ≡ map_at geometry → end ≡ area_from geometry → size ≡ total geometry
    → gates geometry ++ table ∷ range_with_len from (end - from) ++ (size - 1) ∷ [] ≡ cleared geometry
cleared-parts geometry table from end size table_is from_is end_is size_is =
    let count : end - from ≡ map_blocks geometry = omega (arith, from_is, end_is) in
    let run : range_with_len from (end - from) ≡ range_with_len (map_at geometry) (map_blocks geometry) = ap (λ a. range_with_len a (end - from)) from_is ∙ ap (range_with_len (map_at geometry)) count in
    ap (λ t. gates geometry ++ t ∷ range_with_len from (end - from) ++ (size - 1) ∷ []) table_is
    ∙ ap (λ (ks : List ℕ). gates geometry ++ table_at geometry ∷ ks ++ (size - 1) ∷ []) run
    ∙ ap (λ n. gates geometry ++ table_at geometry ∷ range_with_len (map_at geometry) (map_blocks geometry) ++ (n - 1) ∷ []) size_is
