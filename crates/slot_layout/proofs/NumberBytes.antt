-- Numbers of four bytes in what items are spelled as, one behind the other.
use Rattle.std.proofs.Common.{◌/◌, ◌%◌, ◌≡◌, ℕ, zero, suc, ◌+◌, ◌*◌, ◌<◌, ◌≤◌, List, [], ◌∷◌, ◌++◌, length, drop, get_or, refl, sym, ap, ◌∙◌, arith, length-drop}
use Rattle.std.proofs.lemmas.List.{drop-drop, drop_at, drop-append-le, get_or_default, drop_more}
use borrow.Author.Count.{below_more}
use Rattle.byteorder.specs.Endian.{little_number}
use Rattle.byteorder.specs.Numbers.{little_from-append}
use Rattle.nesc_base.specs.declared.block.Block.{Block}
use Rattle.slot_layout.specs.Bytes.{spelled}
use Rattle.slot_layout.specs.Whole.{AreWhole, IsWhole}

-- each of the first n items is spelled in so many bytes
pub record AreSpelledIn {X : Type 0} (spell : X → List ℕ) (size n : ℕ) (xs : List X) : Type 0 where
  pub some : n ≤ length xs
  pub each : (k : ℕ) (x : X) → k < n → length (spell (get_or xs k x)) ≡ size

are_spelled_behind : {X : Type 0} (spell : X → List ℕ) (size n : ℕ) (x : X) (xs : List X) → AreSpelledIn spell size (suc n) (x ∷ xs) → AreSpelledIn spell size n xs
are_spelled_behind spell size n x xs are = record { some = omega arith; each = λ k y below. are.each (suc k) y (omega arith) }

-- behind the bytes of the first items stand those of the others
pub drop-spelled : {X : Type 0} (spell : X → List ℕ) (size n : ℕ) (xs : List X) → AreSpelledIn spell size n xs → drop (size * n) (spelled spell xs) ≡ spelled spell (drop n xs)
drop-spelled spell size zero xs are =
    let none : size * 0 ≡ 0 = omega arith in
    rw none refl
drop-spelled spell size (suc n) [] are = absurd (omega arith)
drop-spelled spell size (suc n) (x ∷ xs) are =
    let whole : length (spell x) ≡ size = are.each 0 x (omega arith) in
    let step : size * suc n ≡ size + size * n = omega arith in
    let others = drop-spelled spell size n xs (are_spelled_behind spell size n x xs are) in
    let behind : drop size (spell x ++ spelled spell xs) ≡ spelled spell xs = drop_at (spell x) (spelled spell xs) size whole in
    let apart : drop (size * n) (drop size (spell x ++ spelled spell xs)) ≡ drop (size + size * n) (spell x ++ spelled spell xs) = drop-drop (size * n) size (spell x ++ spelled spell xs) in
    ap (λ i. drop i (spell x ++ spelled spell xs)) step ∙ sym apart ∙ ap (drop (size * n)) behind ∙ others

-- blocks that have all their bytes
pub are_blocks : (blocks : List Block) (n : ℕ) → AreWhole blocks n → AreSpelledIn (λ block. block.0) 1024 n blocks
are_blocks blocks n whole = record { some = whole.some; each = λ k x below. (whole.each k x below).size }

-- a number in blocks, by the block in which it stands
pub number-spelled : (blocks : List Block) (i : ℕ) (other : Block) → i < 256 * length blocks → AreWhole blocks (i / 256) → IsWhole (get_or blocks (i / 256) other)
    → little_number 4 (drop (4 * i) (spelled (λ block. block.0) blocks)) ≡ little_number 4 (drop (4 * (i % 256)) (get_or blocks (i / 256) other).0)
number-spelled blocks i other below whole here =
    let at = 4 * (i % 256) in
    let bytes = (get_or blocks (i / 256) other).0 in
    let rest = spelled (λ (block : Block). block.0) (drop (i / 256 + 1) blocks) in
    let all = spelled (λ (block : Block). block.0) blocks in
    let place : 4 * i ≡ 1024 * (i / 256) + at = omega arith in
    let from : drop (1024 * (i / 256)) all ≡ bytes ++ rest =
    drop-spelled (λ block. block.0) 1024 (i / 256) blocks (are_blocks blocks (i / 256) whole)
    ∙ ap (spelled (λ (block : Block). block.0)) (drop_more blocks (i / 256) other (omega arith)) in
    let inner : drop (4 * i) all ≡ drop at bytes ++ rest =
    ap (λ k. drop k all) place ∙ sym (drop-drop at (1024 * (i / 256)) all) ∙ ap (drop at) from ∙ drop-append-le at bytes rest (omega (arith, here.size)) in
    ap (little_number 4) inner ∙ little_from-append 4 (drop at bytes) rest (omega (arith, here.size, length-drop at bytes))

-- one more block that has all its bytes
pub are_whole_more : (blocks : List Block) (n : ℕ) (other : Block) → n < length blocks → AreWhole blocks n → IsWhole (get_or blocks n other) → AreWhole blocks (n + 1)
are_whole_more blocks n other below whole here = record {
  some = omega arith;
  each = λ b block within. below_more (λ k. IsWhole (get_or blocks k block)) n (λ k before. whole.each k block before) (rw (get_or_default blocks n block other below) here) b within;
}
