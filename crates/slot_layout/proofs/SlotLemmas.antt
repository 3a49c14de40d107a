-- Blocks of an image by their places, and the slots of an image that are laid over it.
use Rattle.std.proofs.Common.{◌≡◌, ℕ, suc, ◌+◌, ◌-◌, ◌*◌, ◌<◌, ◌≤◌, true, inl, inr, List, ◌++◌, length, take, drop, get_or, subst, sym, ap, ◌∙◌, arith}
use Rattle.std.proofs.Math.Nat.{mul-le-mul_right}
use Rattle.std.proofs.lemmas.Bool.{cases_lt}
use Rattle.std.proofs.lemmas.List.{take_at}
use Rattle.std.proofs.lemmas.Option.{get_or_from_slice_get, slice_get-get_or, unwrap_or-slice_get}
use Rattle.nesc_base.specs.declared.block.Block.{Block}
use Rattle.nesc_base.specs.declared.geometry.Geometry.{Geometry}
use Rattle.nesc_base.specs.Block.{zero_block}
use Rattle.nesc_base.specs.Geometry.{slot_at, slot_blocks, total}
use Rattle.slot_layout.specs.Gate.{is_open}
use Rattle.slot_layout.specs.Slots.{AreOpen, LaidOver, block_at, blocks_from, gate, laid_over, list_of, slot_data}
use Rattle.slot_layout.specs.Targets.{IsListOf}

-- a block that the image has, by its place
pub get_or-block_at : (image : List Block) (place at : ℕ) (d : Block) → place ≡ at → at < length image → get_or image place d ≡ block_at image at
get_or-block_at image place at d same within =
    ap (λ n. get_or image n d) same ∙ get_or_from_slice_get image at (get_or image at zero_block) d (slice_get-get_or image at zero_block within)
    ∙ sym (unwrap_or-slice_get image at zero_block)

-- blocks of the image, by where they begin and end
pub take-blocks_from : (image : List Block) (from to at count : ℕ) → from ≡ at → to ≡ at + count → take (to - from) (drop from image) ≡ blocks_from image at count
take-blocks_from image from to at count begins ends =
    let long : to - from ≡ count = omega arith in
    ap (λ n. take n (drop from image)) long ∙ ap (λ n. take count (drop n image)) begins

-- what is written over all of a vector is all that it has
pub take-written : (written before : List Block) (n : ℕ) → length written ≡ length before → n ≡ length before → take n (written ++ drop (length written) before) ≡ written
take-written written before n same all = take_at written (drop (length written) before) n (omega arith)

-- the gate of a slot stands in the image
pub gate_within : (geometry : Geometry) (image : List Block) (k : ℕ) → total geometry ≤ length image → k ≤ 4 → slot_at geometry k < length image
gate_within geometry image k enough most =
    let before : (k - 1) * slot_blocks geometry ≤ 3 * slot_blocks geometry = mul-le-mul_right (slot_blocks geometry) (omega arith) in
    omega arith

-- one more slot is open
pub AreOpen-more : (geometry : Geometry) (image : List Block) (n k : ℕ) → k ≡ n + 1 → AreOpen geometry image n → is_open (gate geometry image k) ≡ true
    → AreOpen geometry image (n + 1)
AreOpen-more geometry image n k next opened here j from to =
    elim (cases_lt j k) [
      | inl before ↦ opened j from (omega arith)
      | inr last ↦ let same : j ≡ k = omega arith in ap (λ m. is_open (gate geometry image m)) same ∙ here
    ]

-- one more slot is laid over
pub LaidOver-more : (geometry : Geometry) (image : List Block) (n k : ℕ) (before laid : List Block) (targets : List ℕ) → k ≡ n + 1 → LaidOver geometry image n before
    → IsListOf geometry (list_of geometry image k) targets → laid ≡ laid_over targets (slot_data geometry image k) before → LaidOver geometry image (n + 1) laid
LaidOver-more geometry image n k before laid targets next over is put =
    let this : k ≡ suc n = omega arith in
    let last : suc n ≡ n + 1 = omega arith in
    subst (λ m. LaidOver geometry image m laid) last (
      before,
      targets,
      over,
      subst (λ m. IsListOf geometry (list_of geometry image m) targets) this is,
      put ∙ ap (λ m. laid_over targets (slot_data geometry image m) before) this,
    )
