-- Bytes that repeat.
use Rattle.std.proofs.Common.{◌≡◌, ℕ, zero, suc, ◌+◌, ◌-◌, ◌*◌, ◌<◌, ◌++◌, List, length, take, arith, append_assoc, append-nil, ap, ◌∙◌, sym, add-one}
use Rattle.std.proofs.lemmas.Grind.{common_steps}
use Rattle.std.proofs.lemmas.Slice.{take-put_mid}
use borrow.Rule.Slice.PartMut.{put_mid}
use Rattle.nesc_base.specs.BlockText.{times}

-- one time more comes behind as well as in front
pub times-suc : (n : ℕ) (bytes : List ℕ) → times (suc n) bytes ≡ times n bytes ++ bytes
times-suc zero bytes = append-nil bytes
times-suc (suc n) bytes = ap (λ more. bytes ++ more) (times-suc n bytes) ∙ sym (append_assoc bytes (times n bytes) bytes)

-- once the k-th place has the bytes too, the front has them once more
pub take-times : (k : ℕ) (all bytes : List ℕ) → length all ≡ 1024 → length bytes ≡ 8 → k < 128 → take (k * 8) all ≡ times k bytes → (length (put_mid (k * 8) ((k + 1) * 8 - k * 8) all bytes) ≡ 1024) × (take ((k + 1) * 8) (put_mid (k * 8) ((k + 1) * 8 - k * 8) all bytes) ≡ times (k + 1) bytes)
take-times k all bytes long eight within front = (
  grind (arith, common_steps),
  take-put_mid (k * 8) ((k + 1) * 8 - k * 8) all bytes ((k + 1) * 8) (omega arith) (omega arith) ∙ ap (λ bs. bs ++ bytes) front ∙ sym (rw add-one (times-suc k bytes)),
)
