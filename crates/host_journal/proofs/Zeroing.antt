-- An image with its four gates closed, which says beside the slots what it said.
use Rattle.std.proofs.Common.{◌≡◌, ◌≢◌, inl, inr, ℕ, zero, suc, ◌≤◌, false, List, [], ◌∷◌, slice_get, refl, sym, ap, ◌∙◌, arith}
use Rattle.std.specs.Prelude.{slice_set, unwrap_or}
use Rattle.std.proofs.lemmas.Bool.{cases_eq, cases_lt}
use Rattle.nesc_base.specs.declared.block.Block.{Block}
use Rattle.nesc_base.specs.declared.geometry.Geometry.{Geometry}
use Rattle.nesc_base.specs.Block.{zero_block}
use Rattle.nesc_base.specs.Geometry.{slot_at}
use Rattle.nesc_base.proofs.Differing.{slice_get-set_other}
use Rattle.slot_layout.specs.Gate.{is_open}
use Rattle.slot_layout.specs.Slots.{IsBeside, block_at, gate}
use Rattle.slot_layout.proofs.Alike.{slot_below, zero_gate}
use Rattle.host_journal.specs.Laws.{StandsForSome}

-- with the gates of slots 1 to n closed by zeros
abbrev pub with_zeros_to : Geometry → List Block → ℕ → List Block
with_zeros_to geometry image zero = image
with_zeros_to geometry image (suc n) = slice_set (with_zeros_to geometry image n) (slot_at geometry (suc n)) zero_block

zero_there : (image : List Block) (at : ℕ) → block_at (slice_set image at zero_block) at ≡ zero_block
zero_there [] at = refl
zero_there (block ∷ image) zero = refl
zero_there (block ∷ image) (suc at) = zero_there image at

closed_to : (geometry : Geometry) (image : List Block) (n k : ℕ) → 1 ≤ k → k ≤ n → is_open (gate geometry (with_zeros_to geometry image n) k) ≡ false
closed_to geometry image zero k some most = absurd (omega (arith, some, most))
closed_to geometry image (suc n) k some most =
    let before : List Block = with_zeros_to geometry image n in
    elim (cases_eq (slot_at geometry k) (slot_at geometry (suc n))) [
      | inl same ↦ ap (λ at. is_open (block_at (slice_set before (slot_at geometry (suc n)) zero_block) at)) same ∙ ap is_open (zero_there before (slot_at geometry (suc n))) ∙ zero_gate
      | inr apart ↦
          let less : k ≤ n = elim (cases_lt k (suc n)) [ inl less ↦ omega (arith, less) | inr high ↦ absurd (let last : k ≡ suc n = omega (arith, high, most) in apart (ap (slot_at geometry) last)) ] in
          ap (λ o. is_open (unwrap_or o zero_block)) (slice_get-set_other before (slot_at geometry (suc n)) (slot_at geometry k) zero_block apart)
          ∙ closed_to geometry image n k some less
    ]

-- a gate stands behind block 0 and below the table
beside_gate : (geometry : Geometry) (n at : ℕ) → suc n ≤ 4 → IsBeside geometry at → at ≢ slot_at geometry (suc n)
beside_gate geometry n at most (inl first) same = omega (arith, first, same)
beside_gate geometry n at most (inr behind) same = omega (arith, behind.0, same, slot_below geometry (suc n) (omega arith) most)

alike_to : (geometry : Geometry) (image : List Block) (n at : ℕ) → n ≤ 4 → IsBeside geometry at → slice_get (with_zeros_to geometry image n) at ≡ slice_get image at
alike_to geometry image zero at most beside = refl
alike_to geometry image (suc n) at most beside =
    slice_get-set_other (with_zeros_to geometry image n) (slot_at geometry (suc n)) at zero_block (beside_gate geometry n at most beside)
    ∙ alike_to geometry image n at (omega (arith, most)) beside

-- An image whose slots can be replayed stands for what is laid then, with its gates closed.
pub stands_for_some : (geometry : Geometry) (image : List Block) → StandsForSome geometry image
stands_for_some geometry image laid lays = (
  with_zeros_to geometry laid 4,
  closed_to geometry laid 4,
  record { laid = laid; lays = lays; alike = record { each = λ at beside. sym (alike_to geometry laid 4 at (omega arith) beside) } },
)
