-- The blocks of a list have its bytes.
use Rattle.std.proofs.Common.{◌≡◌, ℕ, suc, ◌+◌, ◌-◌, ◌*◌, ◌<◌, ◌≤◌, inl, inr, List, [], ◌∷◌, ◌++◌, length, take, drop, replicate, slice_get, Some, refl, sym, ap, ◌∙◌, arith, append_assoc, length-drop, length-take}
use Rattle.std.proofs.Math.Seq.{take-add}
use Rattle.std.proofs.lemmas.Bool.{cases_lt}
use Rattle.std.proofs.lemmas.List.{drop-drop, drop_at, take_all, take_at, take-append-drop}
use Rattle.nesc_base.specs.declared.block.Block.{Block}
use Rattle.nesc_base.specs.declared.geometry.Geometry.{Geometry}
use Rattle.slot_layout.specs.Bytes.{block_of_bytes, four_bytes, padded, spelled}
use Rattle.slot_layout.specs.Targets.{BeginsWithList, AreTargets, IsListOf, list_block}
use Rattle.slot_layout.proofs.Spelled.{length-numbers}

-- the first bytes, and the rest of them behind
first_joined : (bytes rest : List ℕ) → take (length bytes - 1024) rest ≡ drop 1024 bytes → take (length bytes) (padded 1024 (take 1024 bytes) ++ rest) ≡ bytes
first_joined bytes rest others =
    let front : List ℕ = take 1024 bytes in
    let zeros : List ℕ = replicate (1024 - length front) 0 in
    let apart : (front ++ zeros) ++ rest ≡ front ++ (zeros ++ rest) = append_assoc front zeros rest in
    let size = length-take 1024 bytes in
    elim (cases_lt 1024 (length bytes)) [
      | inl long ↦
          let whole : length front ≡ 1024 = omega arith in
          let none : zeros ≡ [] = ap (λ n. replicate (1024 - n) 0) whole in
          let many : length bytes ≡ 1024 + (length bytes - 1024) = omega arith in
          let behind : drop 1024 ((front ++ zeros) ++ rest) ≡ rest = ap (drop 1024) apart ∙ drop_at front (zeros ++ rest) 1024 whole ∙ ap (λ (xs : List ℕ). xs ++ rest) none in
          let before : take 1024 ((front ++ zeros) ++ rest) ≡ front = ap (take 1024) apart ∙ take_at front (zeros ++ rest) 1024 whole in
          ap (λ n. take n ((front ++ zeros) ++ rest)) many ∙ take-add 1024 (length bytes - 1024) ((front ++ zeros) ++ rest)
          ∙ ap (λ (xs : List ℕ). xs ++ take (length bytes - 1024) (drop 1024 ((front ++ zeros) ++ rest))) before
          ∙ ap (λ (xs : List ℕ). front ++ take (length bytes - 1024) xs) behind ∙ ap (λ (xs : List ℕ). front ++ xs) others ∙ take-append-drop 1024 bytes
      | inr short ↦
          let all : front ≡ bytes = take_all 1024 bytes short in
          ap (take (length bytes)) apart ∙ take_at front (zeros ++ rest) (length bytes) (ap length all) ∙ all
    ]

-- blocks that have these bytes, as many of the blocks as it takes
blocks_joined : (bytes : List ℕ) (blocks : List Block) → length bytes ≤ 1024 * length blocks
    → ((b : ℕ) → 1024 * b < length bytes → slice_get blocks b ≡ Some (block_of_bytes (padded 1024 (take 1024 (drop (1024 * b) bytes)))))
    → take (length bytes) (spelled (λ block. block.0) blocks) ≡ bytes
blocks_joined [] blocks room each = refl
blocks_joined (x ∷ xs) [] room each = absurd (omega arith)
blocks_joined (x ∷ xs) (block ∷ blocks) room each =
    let bytes : List ℕ = x ∷ xs in
    let rest : List ℕ = spelled (λ (b : Block). b.0) blocks in
    let first : Some block ≡ Some (block_of_bytes (padded 1024 (take 1024 bytes))) = each 0 (omega arith) in
    let block_is : block ≡ block_of_bytes (padded 1024 (take 1024 bytes)) = cc in
    let left = length-drop 1024 bytes in
    let behind : (b : ℕ) → 1024 * b < length (drop 1024 bytes) → slice_get blocks b ≡ Some (block_of_bytes (padded 1024 (take 1024 (drop (1024 * b) (drop 1024 bytes))))) =
    λ b below.
    let next : 1024 * suc b ≡ 1024 + 1024 * b = omega arith in
    each (suc b) (omega arith) ∙ ap (λ (bs : List ℕ). Some (block_of_bytes (padded 1024 (take 1024 bs)))) (ap (λ n. drop n bytes) next ∙ sym (drop-drop (1024 * b) 1024 bytes)) in
    let others : take (length (drop 1024 bytes)) rest ≡ drop 1024 bytes = blocks_joined (drop 1024 bytes) blocks (omega arith) behind in
    ap (λ (b : Block). take (length bytes) (b.0 ++ rest)) block_is ∙ first_joined bytes rest (ap (λ n. take n rest) (sym left) ∙ others)

pub list_reads_back : (geometry : Geometry) (targets : List ℕ) (blocks : List Block) → AreTargets geometry targets → BeginsWithList geometry targets blocks → IsListOf geometry blocks targets
unfolding list_block
list_reads_back geometry targets blocks good are =
    let bytes : List ℕ = spelled four_bytes (length targets ∷ targets) in
    let many : length bytes ≡ 4 * length (length targets ∷ targets) = length-numbers (length targets ∷ targets) in
    let size : 4 + 4 * length targets ≡ length bytes = omega arith in
    let room = good.room in
    let count = are.count in
    record {
      count = count;
      good = good;
      spelling = ap (λ n. take n (spelled (λ (b : Block). b.0) blocks)) size ∙ blocks_joined bytes blocks (omega arith) (λ b below. are.each b (omega arith));
    }
