-- The texts of blocks.
use Rattle.std.proofs.Common.{◌≡◌, ℕ, Bool, true, false, cond, List, length, take, refl, arith, ap, ◌∙◌, sym, eqb, Some, None, option_map, inl, inr}
use Rattle.std.proofs.lemmas.Option.{none-some, same_Some}
use Rattle.std.proofs.lemmas.Bool.{cond-true, cond-false, false_from_ne_true, eq-eqb, ne_eqb, cases_Bool, cases_lt}
use Rattle.std.proofs.lemmas.List.{length-take, get_or-take, get_or_past}
use Rattle.std.proofs.lemmas.Slice.Eq.{bytes_eq-Decides}
use Rattle.std.specs.Prelude.{codes}
use Rattle.std.specs.Result.{result_ok}
use Rattle.std.specs.Str.{bytes_eq}
use Rattle.hex.specs.Hex.{encode_lower, lower_digits, decode_of, IsBytes}
use Rattle.hex.proofs.HexLemmas.{decode_of-encode_lower, length-encode_with}
use Rattle.nesc_base.specs.declared.block.Block.{Block}
use Rattle.nesc_base.specs.Block.{zero_block}
use Rattle.nesc_base.specs.BlockText.{period_of, repeated, block_text, block_of_text}

-- the text of the block of zeros
pub block_text-zero : (block : Block) → bytes_eq block.0 zero_block.0 ≡ true → block_text block ≡ codes "z"
unfolding block_text
block_text-zero block is = cond-true (bytes_eq block.0 zero_block.0) _ _ is

-- what a choice between something and nothing chose
chosen : (b : Bool) (x y : List ℕ) → cond b (Some x) None ≡ Some y → (b ≡ true) × (x ≡ y)
chosen true x y is = (refl, same_Some x y is)
chosen false x y is = absurd (none-some y is)

not_chosen : (b : Bool) (x : List ℕ) → cond b (Some x) None ≡ None → b ≡ false
not_chosen true x is = absurd (none-some x (sym is))
not_chosen false x is = refl

-- the text of a block that repeats eight bytes
block_text-repeated : (block : Block) → bytes_eq block.0 zero_block.0 ≡ false → bytes_eq block.0 (repeated (take 8 block.0)).0 ≡ true → block_text block ≡ encode_lower (take 8 block.0)
unfolding block_text
block_text-repeated block other is =
    cond-false (bytes_eq block.0 zero_block.0) _ _ other ∙ cond-true (bytes_eq block.0 (repeated (take 8 block.0)).0) _ _ is

-- the text of any other block
block_text-whole : (block : Block) → bytes_eq block.0 zero_block.0 ≡ false → bytes_eq block.0 (repeated (take 8 block.0)).0 ≡ false → block_text block ≡ encode_lower block.0
unfolding block_text
block_text-whole block other is =
    cond-false (bytes_eq block.0 zero_block.0) _ _ other ∙ cond-false (bytes_eq block.0 (repeated (take 8 block.0)).0) _ _ is

-- the same, by the period of the block
pub block_text-period : (block : Block) (period : List ℕ) → bytes_eq block.0 zero_block.0 ≡ false → period_of block ≡ Some period → block_text block ≡ encode_lower period
block_text-period block period other is =
    let repeats = chosen (bytes_eq block.0 (repeated (take 8 block.0)).0) (take 8 block.0) period is in
    block_text-repeated block other repeats.0 ∙ ap encode_lower repeats.1

pub block_text-no_period : (block : Block) → bytes_eq block.0 zero_block.0 ≡ false → period_of block ≡ None → block_text block ≡ encode_lower block.0
block_text-no_period block other is =
    block_text-whole block other (not_chosen (bytes_eq block.0 (repeated (take 8 block.0)).0) (take 8 block.0) is)

-- `z` is the block of zeros
block_of_text-z : block_of_text (codes "z") ≡ Some zero_block
unfolding block_of_text
block_of_text-z = refl

-- no text of another length than 1 is `z`
bytes_eq-z : (text : List ℕ) → (length text ≡ 1 → ⊥) → bytes_eq text (codes "z") ≡ false
bytes_eq-z text other = false_from_ne_true _ (λ is. other (ap length ((bytes_eq-Decides text (codes "z")).0 is)))

-- what texts of 16 and of 2048 digits read as
block_of_text-repeated : (text : List ℕ) → length text ≡ 16 → block_of_text text ≡ option_map repeated (result_ok (decode_of text))
unfolding block_of_text
block_of_text-repeated text sixteen =
    cond-false (bytes_eq text (codes "z")) _ _ (bytes_eq-z text (λ one. absurd (omega arith))) ∙ cond-true (eqb (length text) 16) _ _ (eq-eqb _ _ sixteen)

block_of_text-whole : (text : List ℕ) → length text ≡ 2048 → block_of_text text ≡ option_map (λ bytes. record { 0 = bytes }) (result_ok (decode_of text))
unfolding block_of_text
block_of_text-whole text long =
    cond-false (bytes_eq text (codes "z")) _ _ (bytes_eq-z text (λ one. absurd (omega arith))) ∙ cond-false (eqb (length text) 16) _ _ (ne_eqb _ _ (λ sixteen. absurd (omega arith))) ∙ cond-true (eqb (length text) 2048) _ _ (eq-eqb _ _ long)

-- the first of some bytes are bytes
IsBytes-take : (n : ℕ) (bytes : List ℕ) → IsBytes bytes → IsBytes (take n bytes)
IsBytes-take n bytes are = λ i. elim (cases_lt i n) [
  | inl below ↦ omega (arith, are i, get_or-take n bytes i 0 below)
  | inr past ↦ omega (arith, get_or_past (take n bytes) i 0 (omega (arith, length-take n bytes)))
]

-- blocks of the same bytes are the same
same_block : (block other : Block) → bytes_eq block.0 other.0 ≡ true → other ≡ block
same_block block other is =
    ap (λ (bytes : List ℕ). let b : Block = record { 0 = bytes } in b) (sym ((bytes_eq-Decides block.0 other.0).0 is))

-- each of the three texts reads as its block
again-zero : (block : Block) → bytes_eq block.0 zero_block.0 ≡ true → block_of_text (block_text block) ≡ Some block
again-zero block is =
    ap block_of_text (block_text-zero block is) ∙ block_of_text-z ∙ ap Some (same_block block zero_block is)

again-repeated : (block : Block) → length block.0 ≡ 1024 → IsBytes block.0 → bytes_eq block.0 zero_block.0 ≡ false → bytes_eq block.0 (repeated (take 8 block.0)).0 ≡ true → block_of_text (block_text block) ≡ Some block
again-repeated block long bytes other is =
    let text = encode_lower (take 8 block.0) in
    let sixteen : length text ≡ 16 = omega (arith, length-encode_with lower_digits (take 8 block.0), length-take 8 block.0) in
    ap block_of_text (block_text-repeated block other is) ∙ block_of_text-repeated text sixteen ∙ ap (λ read. option_map repeated (result_ok read)) (decode_of-encode_lower (take 8 block.0) (IsBytes-take 8 block.0 bytes)) ∙ ap Some (same_block block (repeated (take 8 block.0)) is)

again-whole : (block : Block) → length block.0 ≡ 1024 → IsBytes block.0 → bytes_eq block.0 zero_block.0 ≡ false → bytes_eq block.0 (repeated (take 8 block.0)).0 ≡ false → block_of_text (block_text block) ≡ Some block
again-whole block long bytes other is =
    let text = encode_lower block.0 in
    let length_is : length text ≡ 2048 = omega (arith, length-encode_with lower_digits block.0) in
    ap block_of_text (block_text-whole block other is) ∙ block_of_text-whole text length_is ∙ ap (λ read. option_map (λ bytes. record { 0 = bytes }) (result_ok read)) (decode_of-encode_lower block.0 bytes)

-- the text of a block reads as the block again
pub block_of_text-block_text : (block : Block) → length block.0 ≡ 1024 → IsBytes block.0 → block_of_text (block_text block) ≡ Some block
block_of_text-block_text block long bytes = elim (cases_Bool (bytes_eq block.0 zero_block.0)) [
  | inl is ↦ again-zero block is
  | inr other ↦ elim (cases_Bool (bytes_eq block.0 (repeated (take 8 block.0)).0)) [
    | inl is ↦ again-repeated block long bytes other is
    | inr not ↦ again-whole block long bytes other not
  ]
]

-- the same of a text that is known to be the block's
pub block_of_text-text : (text bytes : List ℕ) → text ≡ block_text (record { 0 = bytes }) → length bytes ≡ 1024 → IsBytes bytes → block_of_text text ≡ Some (record { 0 = bytes })
block_of_text-text text bytes is long are =
    let block : Block = record { 0 = bytes } in ap block_of_text is ∙ block_of_text-block_text block long are
