-- All other bits stay where one is cleared.
use Rattle.std.proofs.Common.{◌≡◌, ◌≢◌, ℕ, ◌*◌, ◌%◌, ◌^◌, ◌<◌, inl, inr, bit_and, min, sym, ap, ◌∙◌, arith, w16}
use Rattle.std.specs.Int.{bit_at, bit_not}
use Rattle.std.proofs.lemmas.Bool.{cases_lt}
use Rattle.std.proofs.lemmas.Nat.Bits.{bit_at_above, bit_at_and, bit_at_clear_other}

pub cleared_others : (bits place k : ℕ) → place < 16 → bits < 2 ^ 16 → k ≢ place
    → bit_at (bit_and bits (bit_not w16 (1 * 2 ^ place % 2 ^ 16))) k ≡ bit_at bits k
cleared_others bits place k within fits apart = elim (cases_lt k 16) [
  | inl below ↦ bit_at_clear_other w16 bits place within k below apart
  | inr above ↦
      let mask : ℕ = bit_not w16 (1 * 2 ^ place % 2 ^ 16) in
      let none = bit_at_above bits 16 k fits above in
      let least : min 0 (bit_at mask k) ≡ 0 = omega arith in
      bit_at_and bits mask k ∙ ap (λ b. min b (bit_at mask k)) none ∙ least ∙ sym none
]
