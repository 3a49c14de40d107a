-- Bytes with zeros behind them.
use Rattle.std.proofs.Common.{◌≡◌, ℕ, ◌+◌, ◌-◌, ◌≤◌, List, ◌++◌, length, take, drop, replicate, sym, ap, ◌∙◌, arith, length-append}
use Rattle.std.proofs.lemmas.List.{drop-drop, drop_at, take_at, take-append-drop, drop-replicate}
use Rattle.std.proofs.lemmas.Slice.{take-put_mid, drop-put_mid}
use borrow.Rule.Slice.PartMut.{put_mid}
use Rattle.slot_layout.specs.Bytes.{padded}

-- bytes that are put over the first zeros
pub put_mid-padded : (size at count : ℕ) (front whole bytes new : List ℕ) → length front ≡ at → count ≡ length bytes → at + length bytes ≤ size
    → whole ≡ padded size front → new ≡ bytes → put_mid at count whole new ≡ padded size (front ++ bytes)
put_mid-padded size at count front whole bytes new front_is count_is fits whole_is new_is =
    let zeros : List ℕ = replicate (size - length front) 0 in
    let put : List ℕ = put_mid at count whole new in
    let whole_length : length whole ≡ length front + length zeros = ap length whole_is ∙ length-append front zeros in
    let new_length : length new ≡ length bytes = ap length new_is in
    let before : take (at + count) put ≡ front ++ bytes =
    take-put_mid at count whole new (at + count) (omega arith) (omega arith) ∙ ap (λ (xs : List ℕ). take at xs ++ new) whole_is ∙ ap (λ (xs : List ℕ). xs ++ new) (take_at front zeros at front_is) ∙ ap (λ (xs : List ℕ). front ++ xs) new_is in
    let length_is : length (front ++ bytes) ≡ at + count = omega (arith, length-append front bytes) in
    let left : size - length front - count ≡ size - length (front ++ bytes) = omega arith in
    let past : drop (at + count) put ≡ drop (at + count) (front ++ zeros) = drop-put_mid at count whole new (at + count) (omega arith) (omega arith) (omega arith) ∙ ap (drop (at + count)) whole_is in
    let fewer : drop (at + count) (front ++ zeros) ≡ replicate (size - length front - count) 0 =
    sym (drop-drop count at (front ++ zeros)) ∙ ap (drop count) (drop_at front zeros at front_is) ∙ drop-replicate count (size - length front) 0 in
    let behind : drop (at + count) put ≡ replicate (size - length (front ++ bytes)) 0 = past ∙ fewer ∙ ap (λ n. replicate n 0) left in
    sym (take-append-drop (at + count) put) ∙ ap (λ (xs : List ℕ). xs ++ drop (at + count) put) before ∙ ap (λ (xs : List ℕ). (front ++ bytes) ++ xs) behind
